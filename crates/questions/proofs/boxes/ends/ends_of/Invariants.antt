use Rattle.std.proofs.Common.{◌≡◌, ℕ, ◌<◌, ◌≤◌, true, get_or}
use Rattle.fields.specs.declared.numbers.spans.Interval.{Interval}
use Rattle.fields.specs.numbers.Spans.{in_span}
use Rattle.questions.specs.steps.Outlines.{IsBetween}
use Rattle.questions.proofs.boxes.ends.ends_of.Given as goal

abbrev pub invariant-loop-span : goal.invariant-loop-span
invariant-loop-span l = (k : ℕ) (d : Interval) → k < l.span-index → (x : ℕ) → x ≤ 4294967295 → in_span x (get_or l.span-items k d) ≡ true → IsBetween l.ends x
