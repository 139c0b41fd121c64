use Rattle.questions.proofs.laws.ExactLaws.{Transports}
use Rattle.questions.proofs.boxes.transport.by_transport.Given as goal

abbrev pub invariant-loop-transport : goal.invariant-loop-transport
invariant-loop-transport l = Transports l.area l.boxes.items l.transport-index
