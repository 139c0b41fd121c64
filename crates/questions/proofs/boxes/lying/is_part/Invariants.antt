use Rattle.std.proofs.Common.{◌≡◌, ℕ, ◌<◌, true, get_or}
use Rattle.fields.specs.declared.numbers.spans.Interval.{Interval}
use Rattle.fields.specs.numbers.Spans.{has, in_span}
use Rattle.questions.proofs.boxes.lying.is_part.Given as goal

abbrev pub invariant-loop-span : goal.invariant-loop-span
invariant-loop-span l = (k : ℕ) (d : Interval) → k < l.span-index → (x : ℕ) → in_span x (get_or l.span-items k d) ≡ true → has l.other.intervals x ≡ true
