use Rattle.std.proofs.Common.{◌≡◌, map, take, drop, ◌++◌, length}
use Rattle.table.specs.steps.Kept.{retargeted}
use Rattle.table.proofs.chain.entry.retarget.Given as goal

-- the rules passed have the name
abbrev pub invariant-loop-at : goal.invariant-loop-at
invariant-loop-at l = record {
  same : l.entries.items ≡ map (retargeted l.key l.name) (take l.at l.fn.entries.items) ++ drop l.at l.fn.entries.items;
  long : length l.entries.items ≡ length l.fn.entries.items;
}
