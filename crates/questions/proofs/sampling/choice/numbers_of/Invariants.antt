use Rattle.std.proofs.Common.{◌≡◌, ℕ, ◌<◌, length, get_or}
use Rattle.fields.specs.numbers.Field.{all_fields}
use Rattle.fields.specs.declared.numbers.field.Field.{Field}
use Rattle.fields.specs.declared.numbers.field.TheConstants.{FIELDS}
use Rattle.questions.specs.steps.Sampled.{IsNumberOn}
use Rattle.questions.proofs.sampling.choice.numbers_of.Given as goal

abbrev pub invariant-loop-place : goal.invariant-loop-place
invariant-loop-place l = record {
  long : length l.numbers ≡ FIELDS;
  chosen : (place : ℕ) (f : Field) → place < l.place → IsNumberOn l.area l.kind (get_or all_fields place f) (get_or l.numbers place 0);
}
