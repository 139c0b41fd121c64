use Rattle.questions.proofs.laws.AnswerLaws.{IsSoFar}
use Rattle.questions.proofs.foreign.need.known_of.Given as goal

abbrev pub invariant-loop-need : goal.invariant-loop-need
invariant-loop-need l = IsSoFar l.needs l.answers l.need-index l.found
