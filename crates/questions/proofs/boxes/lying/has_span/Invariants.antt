use Rattle.std.proofs.Common.{ℕ, ◌<◌, ◌≤◌, get_or}
use Rattle.fields.specs.declared.numbers.spans.Interval.{Interval}
use Rattle.questions.proofs.boxes.lying.has_span.Given as goal

abbrev pub invariant-loop-other : goal.invariant-loop-other
invariant-loop-other l = (k : ℕ) (d : Interval) → k < l.other-index → (get_or l.other-items k d).first ≤ l.span.first → l.span.last ≤ (get_or l.other-items k d).last → ⊥
