use Rattle.std.proofs.Common.{◌≡◌, ℕ, Bool, true, false, not, get_or, refl, sym, arith, subst, ◌∙◌, length-set}
use Rattle.std.proofs.lemmas.List.{get_or_default}
use Rattle.fields.specs.numbers.Spans.{SpanSet}
use Rattle.rules.proofs.laws.BoxLaws.{box_long}
use Rattle.questions.specs.boxes.Cut.{IsWhole}
use Rattle.questions.proofs.laws.AreaLaws.{set_next}
use Rattle.questions.proofs.boxes.meeting.narrow_fields.Goals as goal

not_narrow : (b : Bool) → not b ≡ false → b ≡ true
not_narrow true off = refl
not_narrow false off = sym off

pub loop-place-preserved : goal.loop-place-preserved
loop-place-preserved c =
    let sets = c.args.sets.now in
    let place = c.loop-place.place in
    let own = c.index-sets-place.result in
    let before = c.loop-place.invariant in
    let mark = not c.is_whole.result in
    let Holds : ℕ → Bool → Type 0 = λ i b. b ≡ false → (e : SpanSet) → IsWhole (get_or sets i e) in
    let here : Holds place mark = λ narrow e.
    subst (λ (s : SpanSet). IsWhole s) (c.index-sets-place.is ∙ get_or_default sets place own e (omega (arith, box_long sets c.requires))) (c.is_whole.ensures (not_narrow c.is_whole.result narrow)) in
    record {
      long = length-set c.loop-place.narrow place mark ∙ before.long;
      whole = λ k b d lt off. set_next Holds c.loop-place.narrow place mark (omega (arith, before.long)) (λ i other less narrow e. before.whole i other e less narrow) here k b lt off d;
    }

pub returns : goal.returns
returns c = λ k mark d lt off. c.loop-place.invariant.whole k mark d (omega (arith, lt, c.loop-place-test.false)) off
