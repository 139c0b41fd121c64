use Rattle.questions.specs.asked.Necessary.{AreEnough}
use Rattle.questions.proofs.laws.NecessaryLaws.{AreTried}
use Rattle.questions.proofs.asked.necessary.necessary_of.Given as goal

abbrev pub invariant-loop-answer : goal.invariant-loop-answer
invariant-loop-answer l = record {
  enough : AreEnough l.subject l.fn.step l.fn.packet l.fn.answers → AreEnough l.subject l.fn.step l.fn.packet l.necessary;
  tried : AreTried l.subject l.fn.step l.fn.packet l.fn.budget l.answer-items l.answer-index l.necessary;
}
