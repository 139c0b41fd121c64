use Rattle.std.proofs.Common.{take}
use Rattle.questions.specs.steps.Answered.{AreAlike, AreFree}
use Rattle.questions.proofs.foreign.left.left_of.Given as goal

abbrev pub invariant-loop-need : goal.invariant-loop-need
invariant-loop-need l = record {
  free : AreFree l.answers l.left.items;
  alike : AreAlike l.answers (take l.need-index l.needs) l.left.items;
}
