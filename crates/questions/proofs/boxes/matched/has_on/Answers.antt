use Rattle.std.proofs.Common.{◌≡◌, ◌<◌, ◌≤◌, ℕ, List, inl, inr, sym, ◌∙◌, true, length, get_or, arith, true≢false}
use Rattle.std.proofs.lemmas.Bool.{cases_Bool}
use Rattle.std.proofs.lemmas.List.{get_or_default}
use Rattle.fields.specs.declared.numbers.field.Field.{Field}
use Rattle.fields.specs.numbers.Field.{all_fields, index, number_on, top}
use Rattle.fields.specs.numbers.Spans.{SpanSet, has}
use Rattle.rules.specs.Boxed.{IsBox}
use Rattle.rules.proofs.laws.BoxLaws.{top_on}
use Rattle.classify.specs.Classifier.{box_allows, box_matches}
use Rattle.questions.specs.boxes.Cut.{IsWhole}
use Rattle.questions.specs.steps.Sides.{no_set}
use Rattle.questions.proofs.laws.AreaLaws.{from_fields, set_at, set_has}
use Rattle.questions.proofs.laws.ChoiceLaws.{each_field}
use Rattle.questions.proofs.laws.TrailLaws.{items_next}
use Rattle.questions.proofs.boxes.matched.has_on.Goals.{else-narrow-place-via-else-narrow-place, else-narrow-place-via-then-narrow-place+else-not-has}
use Rattle.questions.proofs.boxes.matched.has_on.Goals as goal

-- a set that has all numbers up to its top has one of its field
in_whole : (box : List SpanSet) (k : ℕ) (f : Field) (x : ℕ) → IsBox box → k ≡ index f → x ≤ top f → IsWhole (get_or box k no_set) → box_allows box f x ≡ true
in_whole box k f x is at le whole =
    let same : (get_or box k no_set).top ≡ top f = top_on box is f k no_set at in
    rw (at) at (whole x (omega (arith, le, same)))

pub returns : goal.returns
returns c =
    let P : Field → Type 0 = λ f. box_allows c.args.sets.now f (number_on c.args.packet.now.values f) ≡ true in
    sym (from_fields c.args.sets.now c.args.packet.now.values (each_field P (λ k d lt. c.loop-field.invariant k d (omega arith)))).each

pub returns-then-not-has : goal.returns-then-not-has
returns-then-not-has c =
    elim (cases_Bool (box_matches c.args.packet.now.values c.args.sets.now)) [
      | inl h ↦
          let here : has c.index-sets-place.result.intervals c.point.result ≡ true = rw c.point.ensures.value (set_has c.args.sets.now c.args.packet.now.values _ _ c.index-sets-place.result c.requires.sets c.index-place.ensures.place c.index-sets-place.is (record { each = h })) in
          absurd (true≢false (sym here ∙ sym c.has.ensures ∙ c.if-not-has.true))
      | inr un ↦ sym un
    ]

pub loop-field-preserved : goal.loop-field-preserved
loop-field-preserved c =
    let values = c.args.packet.now.values in
    let P : Field → Type 0 = λ f. box_allows c.args.sets.now f (number_on values f) ≡ true in
    let within : c.loop-field.field-index < length all_fields = omega (arith, c.loop-field-test.true) in
    items_next P all_fields c.loop-field.field-index _ within (get_or_default all_fields c.loop-field.field-index _ _ within) c.loop-field.invariant
    (elim c.else-narrow-place.branch [
      | else-narrow-place-via-then-narrow-place+else-not-has w ↦ (
          let here : has w.index-sets-place.result.intervals w.point.result ≡ true = sym w.has.ensures ∙ w.if-not-has.false in
          sym (set_at c.args.sets.now _ _ w.index-sets-place.result _ c.requires.sets c.index-place.ensures.place w.index-sets-place.is) ∙ (rw w.point.ensures.value at here))
      | else-narrow-place-via-else-narrow-place w ↦
          in_whole c.args.sets.now c.index-place.result _ _ c.requires.sets c.index-place.ensures.place (c.requires.can.packet.within _)
          (c.requires.narrow c.index-place.result _ no_set c.index-place.ensures.bound w.if-narrow-place.false)
    ])
