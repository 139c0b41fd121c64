use Rattle.std.proofs.Common.{◌≡◌, drop}
use Rattle.questions.specs.steps.Shared.{pair_named}
use Rattle.questions.proofs.asked.pairs.marks_of.Given as goal

-- the pair is among those that are left
abbrev pub invariant-loop-pair : goal.invariant-loop-pair
invariant-loop-pair l = pair_named l.old.table.chains l.pairs l.name ≡ pair_named l.old.table.chains (drop l.pair-index l.pairs) l.name
