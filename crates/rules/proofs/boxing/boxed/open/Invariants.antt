use Rattle.std.proofs.Common.{◌≡◌, ℕ, ◌<◌, length, get_or}
use Rattle.fields.specs.numbers.Spans.{SpanSet}
use Rattle.fields.specs.declared.numbers.field.TheConstants.{FIELDS}
use Rattle.rules.specs.steps.Conditions.{HasAllNumbers}
use Rattle.rules.proofs.boxing.boxed.open.Given as goal

abbrev pub invariant-loop-place : goal.invariant-loop-place
invariant-loop-place l = record {
  long : length l.spans ≡ FIELDS;
  whole : (k : ℕ) (s : SpanSet) → k < l.place → HasAllNumbers k (get_or l.spans k s);
}
