use Rattle.questions.specs.Foreign.{Agrees, Assignment}
use Rattle.questions.proofs.asked.missing.settle.Given as goal

abbrev pub invariant-loop-need : goal.invariant-loop-need
invariant-loop-need l = (a : Assignment) → Agrees a l.answers → Agrees a l.initial.answers
