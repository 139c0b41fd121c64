use Rattle.std.proofs.Common.{◌≡◌, take, min}
use Rattle.table.specs.chains.Table.{chain_at}
use Rattle.questions.specs.steps.Lengths.{all_added, number_of}
use Rattle.questions.proofs.walking.lengths.added_at.Given as goal

abbrev pub invariant-loop-passed : goal.invariant-loop-passed
invariant-loop-passed l = l.sum ≡ min 65536 (all_added (number_of l.table.table.chains l.numbers) (take l.passed (chain_at l.table.table l.fn.place).rules))
