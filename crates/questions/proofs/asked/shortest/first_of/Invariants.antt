use Rattle.std.proofs.Common.{◌≡◌, take}
use Rattle.questions.proofs.asked.shortest.first_of.Given as goal

abbrev pub invariant-loop-answer : goal.invariant-loop-answer
invariant-loop-answer l = l.first ≡ take l.answer-index l.answer-items
