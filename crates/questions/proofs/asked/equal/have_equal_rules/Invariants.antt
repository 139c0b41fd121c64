use Rattle.table.specs.chains.Table.{chain_at}
use Rattle.questions.proofs.laws.EqualLaws.{AlikeBelow}
use Rattle.questions.proofs.asked.equal.have_equal_rules.Given as goal

abbrev pub invariant-loop-passed : goal.invariant-loop-passed
invariant-loop-passed l = AlikeBelow (chain_at l.old.table l.fn.place).rules (chain_at l.new.table l.fn.place).rules l.passed
