use Rattle.std.proofs.Common.{◌≡◌, ◌<◌, inl, inr, sym, ◌∙◌, true, length, arith, true≢false}
use Rattle.std.proofs.lemmas.Bool.{cases_Bool}
use Rattle.std.proofs.lemmas.List.{get_or_default}
use Rattle.fields.specs.declared.numbers.field.Field.{Field}
use Rattle.fields.specs.numbers.Field.{all_fields, number_on}
use Rattle.fields.specs.numbers.Spans.{has}
use Rattle.classify.specs.Classifier.{box_allows, box_matches}
use Rattle.questions.proofs.laws.AreaLaws.{from_fields, set_at, set_has}
use Rattle.questions.proofs.laws.ChoiceLaws.{each_field}
use Rattle.questions.proofs.laws.TrailLaws.{items_next}
use Rattle.questions.proofs.boxes.matched.has.Goals as goal

pub returns : goal.returns
returns c =
    let P : Field → Type 0 = λ f. box_allows c.args.sets.now f (number_on c.args.packet.now.values f) ≡ true in
    sym (from_fields c.args.sets.now c.args.packet.now.values (each_field P (λ k d lt. c.loop-field.invariant k d (omega arith)))).each

pub returns-then-not-has : goal.returns-then-not-has
returns-then-not-has c =
    elim (cases_Bool (box_matches c.args.packet.now.values c.args.sets.now)) [
      | inl h ↦
          let here : has c.index-sets-index.result.intervals c.point.result ≡ true = rw c.point.ensures.value (set_has c.args.sets.now c.args.packet.now.values _ _ c.index-sets-index.result c.requires c.index.ensures.place c.index-sets-index.is (record { each = h })) in
          absurd (true≢false (sym here ∙ sym c.has.ensures ∙ c.if-not-has.true))
      | inr un ↦ sym un
    ]

pub loop-field-preserved : goal.loop-field-preserved
loop-field-preserved c =
    let P : Field → Type 0 = λ f. box_allows c.args.sets.now f (number_on c.args.packet.now.values f) ≡ true in
    let here : has c.index-sets-index.result.intervals c.point.result ≡ true = sym c.has.ensures ∙ c.if-not-has.false in
    let within : c.loop-field.field-index < length all_fields = omega (arith, c.loop-field-test.true) in
    items_next P all_fields c.loop-field.field-index _ within (get_or_default all_fields c.loop-field.field-index _ _ within) c.loop-field.invariant
    (sym (set_at c.args.sets.now _ _ c.index-sets-index.result _ c.requires c.index.ensures.place c.index-sets-index.is) ∙ (rw c.point.ensures.value at here))
