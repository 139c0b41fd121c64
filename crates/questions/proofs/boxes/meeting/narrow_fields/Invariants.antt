use Rattle.std.proofs.Common.{◌≡◌, ℕ, ◌<◌, Bool, false, length, get_or}
use Rattle.fields.specs.declared.numbers.field.TheConstants.{FIELDS}
use Rattle.fields.specs.numbers.Spans.{SpanSet}
use Rattle.questions.specs.boxes.Cut.{IsWhole}
use Rattle.questions.proofs.boxes.meeting.narrow_fields.Given as goal

abbrev pub invariant-loop-place : goal.invariant-loop-place
invariant-loop-place l = record {
  long : length l.narrow ≡ FIELDS;
  whole : (k : ℕ) (mark : Bool) (d : SpanSet) → k < l.place → get_or l.narrow k mark ≡ false → IsWhole (get_or l.sets k d);
}
