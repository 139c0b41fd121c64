use Rattle.std.proofs.Common.{◌≡◌, ℕ, true, List, slice_index, below_more, ◌∙◌, sym, arith}
use Rattle.classify.specs.Classifier.{IsPoint}
use Rattle.questions.specs.steps.Sides.{has_at, no_set}
use Rattle.questions.proofs.laws.AreaLaws.{at_place, from_places, place_set, within_top}
use Rattle.questions.proofs.boxes.lying.lies_on.Goals.{else-narrow-place-via-else-narrow-place, else-narrow-place-via-then-narrow-place+else-not-is_part}
use Rattle.questions.proofs.boxes.lying.lies_on.Goals as goal

pub loop-place-preserved : goal.loop-place-preserved
loop-place-preserved c =
    let own = c.args.own.now in
    let other = c.args.other.now in
    let place = c.loop-place.place in
    let P : ℕ → Type 0 = λ k. (numbers : List ℕ) → IsPoint numbers → has_at own numbers k ≡ true → has_at other numbers k ≡ true in
    let here : P place = elim c.else-narrow-place.branch [
      | else-narrow-place-via-then-narrow-place+else-not-is_part w ↦ λ numbers point h.
          place_set other numbers place w.index-other-place.result w.index-other-place.is c.requires.other (omega arith)
          ∙ w.is_part.ensures.all w.if-not-is_part.false (slice_index numbers place) (sym (place_set own numbers place w.index-own-place.result w.index-own-place.is c.requires.own (omega arith)) ∙ h)
      | else-narrow-place-via-else-narrow-place w ↦ λ numbers point h. c.requires.narrow place _ no_set (omega arith) w.if-narrow-place.false (slice_index numbers place) (within_top other numbers place no_set c.requires.other point (omega arith))
    ] in
    below_more P place c.loop-place.invariant here

pub returns : goal.returns
returns c = λ _ numbers point own. record {
  each = from_places c.args.other.now numbers (λ k lt. c.loop-place.invariant k (omega (arith, lt, c.loop-place-test.false)) numbers point (at_place c.args.own.now numbers k lt own.each));
}
