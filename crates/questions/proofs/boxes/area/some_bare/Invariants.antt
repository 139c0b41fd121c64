use Rattle.std.proofs.Common.{ℕ, ◌<◌, get_or}
use Rattle.fields.specs.numbers.Spans.{SpanSet}
use Rattle.questions.specs.steps.Sides.{HasOne}
use Rattle.questions.proofs.boxes.area.some_bare.Given as goal

abbrev pub invariant-loop-set : goal.invariant-loop-set
invariant-loop-set l = (k : ℕ) (d : SpanSet) → k < l.set-index → HasOne (get_or l.sets k d)
