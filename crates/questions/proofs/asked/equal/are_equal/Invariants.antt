use Rattle.questions.proofs.laws.EqualLaws.{AlikeBelow}
use Rattle.questions.proofs.asked.equal.are_equal.Given as goal

abbrev pub invariant-loop-place : goal.invariant-loop-place
invariant-loop-place l = AlikeBelow l.old.table.chains l.new.table.chains l.place
