use Rattle.std.proofs.Common.{◌≡◌, ℕ, ◌<◌, true, List}
use Rattle.classify.specs.Classifier.{IsPoint}
use Rattle.questions.specs.steps.Sides.{has_at}
use Rattle.questions.proofs.boxes.lying.lies_on.Given as goal

abbrev pub invariant-loop-place : goal.invariant-loop-place
invariant-loop-place l = (k : ℕ) → k < l.place → (numbers : List ℕ) → IsPoint numbers → has_at l.own numbers k ≡ true → has_at l.other numbers k ≡ true
