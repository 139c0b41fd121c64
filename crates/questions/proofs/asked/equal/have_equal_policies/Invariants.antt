use Rattle.questions.proofs.laws.EqualLaws.{GiveSame}
use Rattle.questions.proofs.asked.equal.have_equal_policies.Given as goal

abbrev pub invariant-loop-place : goal.invariant-loop-place
invariant-loop-place l = GiveSame l.old.table.policies l.new.table.policies l.place
