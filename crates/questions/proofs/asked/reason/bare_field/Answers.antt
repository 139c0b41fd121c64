use Rattle.std.proofs.Common.{◌≡◌, ℕ, inl, inr, get_or, arith, subst}
use Rattle.std.proofs.lemmas.Bool.{cases_lt}
use Rattle.std.proofs.lemmas.List.{get_or_default}
use Rattle.fields.specs.declared.numbers.field.Field.{Field}
use Rattle.fields.specs.declared.numbers.field.Field.TheVariants as field
use Rattle.fields.specs.numbers.Field.{all_fields, index}
use Rattle.rules.proofs.laws.BoxLaws.{here_is, index-lt}
use Rattle.questions.proofs.laws.AreaLaws.{first_number}
use Rattle.questions.proofs.laws.PacketLaws.{HasNumberOn, number_of_set}
use Rattle.questions.proofs.asked.reason.bare_field.Goals as goal

pub loop-field-preserved : goal.loop-field-preserved
loop-field-preserved c = λ k d lt.
    let i : ℕ = c.loop-field.field-index in
    let On : Field → Type 0 = HasNumberOn c.args.boxed.now in
    elim (cases_lt k i) [
      | inl before ↦ c.loop-field.invariant k d before
      | inr past ↦ (
          let same : i ≡ k = omega (arith, lt, past) in
          let one = first_number c.on.result.now c.is_empty.result c.intervals.ensures.canonical (rw c.intervals.ensures.value at c.is_empty.ensures) c.if-is_empty.false in
          let here : On (get_or all_fields i field.Source) = number_of_set c.args.boxed.now (get_or all_fields i field.Source) c.on.result.now c.on.ensures.set c.on.ensures.top one in
          rw same at (subst On (get_or_default all_fields i field.Source d (omega (arith, c.loop-field-test.true))) here))
    ]

pub returns : goal.returns
returns c = λ f. (
    let P : Field → Type 0 = HasNumberOn c.args.boxed.now in
    subst P (here_is f f) (c.loop-field.invariant (index f) f (omega (arith, index-lt f, c.loop-field-test.false))))
