use Rattle.std.proofs.Common.{ℕ, ◌<◌, List, get_or}
use Rattle.fields.specs.numbers.Spans.{SpanSet}
use Rattle.questions.specs.boxes.Boxes.{Has}
use Rattle.questions.proofs.asked.exact.has_some.Given as goal

-- the boxes that were passed are empty
abbrev pub invariant-loop-part : goal.invariant-loop-part
invariant-loop-part l = (k : ℕ) (d : List SpanSet) → k < l.part-index → (numbers : List ℕ) → Has (get_or l.boxes k d) numbers → ⊥
