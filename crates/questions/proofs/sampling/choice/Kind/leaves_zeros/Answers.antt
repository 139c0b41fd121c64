use Rattle.std.proofs.Common.{◌≡◌, true, false, refl, arith}
use Rattle.fields.specs.declared.numbers.field.Field.{Field}
use Rattle.classify.specs.Classifier.{box_allows}
use Rattle.questions.specs.steps.Sampled.{carries_field}
use Rattle.questions.proofs.laws.ChoiceLaws.{each_field}
use Rattle.questions.proofs.sampling.choice.Kind.leaves_zeros.Goals as goal

pub returns : goal.returns
returns c =
    let P : Field → Type 0 = λ f. carries_field c.args.self f ≡ false → box_allows c.args.area.now f 0 ≡ true in
    (λ _. each_field P (λ k d lt. c.loop-field.invariant k d (omega arith)), λ _. refl)
