use Rattle.std.proofs.Common.{◌≡◌, ℕ, ◌<◌, length, get_or}
use Rattle.fields.specs.numbers.Spans.{SpanSet}
use Rattle.fields.specs.declared.numbers.field.TheConstants.{FIELDS}
use Rattle.questions.specs.steps.Sides.{IsSide}
use Rattle.questions.proofs.boxes.area.put_sides.Given as goal

abbrev pub invariant-loop-place : goal.invariant-loop-place
invariant-loop-place l = record {
  long : length l.sets ≡ FIELDS;
  sides : (place : ℕ) (d e f : SpanSet) → place < l.place → IsSide l.at place (get_or l.own place d) (get_or l.other place e) (get_or l.sets place f);
}
