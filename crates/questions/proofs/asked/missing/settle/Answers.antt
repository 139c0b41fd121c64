use Rattle.questions.proofs.laws.NecessaryLaws.{given_agrees}
use Rattle.questions.proofs.asked.missing.settle.Goals as goal

pub loop-need-preserved : goal.loop-need-preserved
loop-need-preserved c = λ a agrees. c.loop-need.invariant a (given_agrees a _ _ c.in_ok-_is_new._is_new _ _ c.in_ok-_is_new.ensures agrees)
