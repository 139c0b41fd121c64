use Rattle.std.proofs.Common.{◌≡◌, ◌+◌, ◌-◌, ◌^◌, min, take}
use Rattle.questions.specs.boxes.Boxes.{rules_in}
use Rattle.questions.proofs.laws.BoxesLaws.{ChainPairs}
use Rattle.questions.proofs.boxes.boxed_table.BoxedTable.of.Given as goal

abbrev pub invariant-loop-place : goal.invariant-loop-place
invariant-loop-place l = record {
  pairs : ChainPairs l.fn.table.table.chains l.chains.items l.place;
  counted : l.work ≡ min (l.initial.work + rules_in (take l.place l.fn.table.table.chains)) (2 ^ 64 - 1);
}
