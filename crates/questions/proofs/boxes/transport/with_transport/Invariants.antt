use Rattle.questions.proofs.laws.TransportLaws.{IsWithBelow}
use Rattle.questions.proofs.boxes.transport.with_transport.Given as goal

abbrev pub invariant-loop-place : goal.invariant-loop-place
invariant-loop-place l = IsWithBelow l.fn.transport l.place l.initial.area l.area
