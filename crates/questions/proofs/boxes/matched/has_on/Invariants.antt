use Rattle.std.proofs.Common.{◌≡◌, ℕ, ◌<◌, true, get_or}
use Rattle.fields.specs.declared.numbers.field.Field.{Field}
use Rattle.fields.specs.numbers.Field.{all_fields, number_on}
use Rattle.classify.specs.Classifier.{box_allows}
use Rattle.questions.proofs.boxes.matched.has_on.Given as goal

abbrev pub invariant-loop-field : goal.invariant-loop-field
invariant-loop-field l =
    (k : ℕ) (d : Field) → k < l.field-index → box_allows l.sets (get_or all_fields k d) (number_on l.packet.values (get_or all_fields k d)) ≡ true
