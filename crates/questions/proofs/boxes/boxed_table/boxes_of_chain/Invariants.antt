use Rattle.std.proofs.Common.{◌≡◌, ◌+◌, ◌-◌, ◌^◌, min}
use Rattle.table.specs.chains.Table.{chain_at}
use Rattle.questions.proofs.laws.BoxesLaws.{RulePairs}
use Rattle.questions.proofs.boxes.boxed_table.boxes_of_chain.Given as goal

abbrev pub invariant-loop-before : goal.invariant-loop-before
invariant-loop-before l = record {
  pairs : RulePairs (chain_at l.table.table l.place).rules l.boxes.items l.before;
  counted : l.work ≡ min (l.initial.work + l.before) (2 ^ 64 - 1);
}
