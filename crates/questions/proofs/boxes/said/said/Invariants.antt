use Rattle.questions.specs.steps.Saying.{IsSaidOf}
use Rattle.questions.specs.steps.Transports.{all_transports}
use Rattle.questions.proofs.laws.BoxesLaws.{Pair}
use Rattle.questions.proofs.boxes.said.said.Given as goal

-- a box for each transport header so far
abbrev pub invariant-loop-transport : goal.invariant-loop-transport
invariant-loop-transport l = Pair (λ t box. IsSaidOf t l.fn.hook l.words box) all_transports l.boxes.items l.transport-index
