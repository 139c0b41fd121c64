use Rattle.std.proofs.Common.{◌≡◌, ℕ, ◌<◌, false, true, get_or}
use Rattle.fields.specs.declared.numbers.field.Field.{Field}
use Rattle.fields.specs.numbers.Field.{all_fields}
use Rattle.classify.specs.Classifier.{box_allows}
use Rattle.questions.specs.steps.Sampled.{carries_field}
use Rattle.questions.proofs.sampling.choice.Kind.leaves_zeros.Given as goal

abbrev pub invariant-loop-field : goal.invariant-loop-field
invariant-loop-field l =
    (k : ℕ) (d : Field) → k < l.field-index → carries_field l.self (get_or all_fields k d) ≡ false → box_allows l.area (get_or all_fields k d) 0 ≡ true
