use Rattle.std.proofs.Common.{◌≡◌, ℕ, ◌<◌, length, get_or}
use Rattle.fields.specs.numbers.Field.{all_fields}
use Rattle.fields.specs.numbers.Spans.{SpanSet}
use Rattle.fields.specs.declared.numbers.field.Field.{Field}
use Rattle.fields.specs.declared.numbers.field.TheConstants.{FIELDS}
use Rattle.questions.specs.steps.Sides.{IsBeginning}
use Rattle.questions.proofs.boxes.area.open.Given as goal

abbrev pub invariant-loop-place : goal.invariant-loop-place
invariant-loop-place l = record {
  long : length l.sets ≡ FIELDS;
  begun : (place : ℕ) (f : Field) (d : SpanSet) → place < l.place → IsBeginning l.hook (get_or all_fields place f) (get_or l.sets place d);
}
