use Rattle.std.proofs.Common.{length}
use Rattle.questions.specs.asked.Necessary.{AreEnough}
use Rattle.questions.proofs.asked.shortest.first_enough.Given as goal

abbrev pub invariant-loop-alloc : goal.invariant-loop-alloc
invariant-loop-alloc l = AreEnough l.subject l.step l.packet l.fn.answers → AreEnough l.subject l.step l.packet l.answers

abbrev pub decreases-loop-alloc : goal.decreases-loop-alloc
decreases-loop-alloc l = length l.answers
