use Rattle.std.proofs.Common.{ℕ, Bool, List, arith, subst}
use Rattle.fields.specs.declared.numbers.field.Field.{Field}
use Rattle.fields.specs.numbers.Field.{all_fields, index}
use Rattle.notation.specs.Words.{IsWritten}
use Rattle.notation.proofs.FieldLaws.{here_is, index-lt}
use Rattle.notation.proofs.words.parts.Goals as goal

pub returns : goal.returns
returns c = λ f.
    let P : Field → Type 0 = λ g. (denies : Bool) (list : List ℕ) → ¬ (IsWritten c.args.word.now g denies list) in
    subst P (here_is f f) (c.loop-field.invariant (index f) f (omega (arith, index-lt f, c.loop-field-test.false)))
