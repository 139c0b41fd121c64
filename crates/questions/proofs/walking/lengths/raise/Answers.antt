use Rattle.std.proofs.Common.{◌≡◌, ◌+◌, ◌<◌, ◌≤◌, false, true, sym, ◌∙◌, ap, arith, true≢false}
use Rattle.questions.specs.steps.Lengths.{AreBounds, room_left}
use Rattle.questions.proofs.laws.LengthLaws.{bounds_next}
use Rattle.questions.proofs.walking.lengths.raise.Goals as goal
use Rattle.questions.proofs.walking.lengths.raise.Goals.{then-raise_at, else-raise_at}

pub loop-place-preserved : goal.loop-place-preserved
loop-place-preserved c =
    let t = c.args.table.now.table in
    let old = c.loop-place.numbers.items in
    let new = c.raise_at.new.numbers.items in
    let first = c.args.numbers.now.items in
    let bounds : c.if-raise_at.is_more ≡ false → AreBounds t new (c.loop-place.place + 1) = elim c.if-raise_at.branch [
      | then-raise_at w ↦ (λ off. absurd (true≢false (sym w.is_more-is ∙ off)))
      | else-raise_at w ↦ (λ off. bounds_next t old new c.loop-place.place (c.raise_at.ensures.same w.if-raise_at.false) (c.loop-place.invariant.bounds (sym w.is_more-is ∙ off)) (c.raise_at.ensures.bound w.if-raise_at.false))
    ] in
    let least : room_left new ≤ room_left first = elim c.if-raise_at.branch [
      | then-raise_at w ↦ (let h = c.raise_at.ensures.less w.if-raise_at.true in omega (arith, h, c.loop-place.invariant.least))
      | else-raise_at w ↦ (let h = ap room_left (c.raise_at.ensures.same w.if-raise_at.false) in omega (arith, h, c.loop-place.invariant.least))
    ] in
    let less : c.if-raise_at.is_more ≡ true → room_left new < room_left first = elim c.if-raise_at.branch [
      | then-raise_at w ↦ (λ on. (let h = c.raise_at.ensures.less w.if-raise_at.true in omega (arith, h, c.loop-place.invariant.least)))
      | else-raise_at w ↦ (λ on. (let h = ap room_left (c.raise_at.ensures.same w.if-raise_at.false) in let k = c.loop-place.invariant.less (sym w.is_more-is ∙ on) in omega (arith, h, k)))
    ] in
    record { raised = record { long = c.raise_at.ensures.raised.long ∙ c.loop-place.invariant.raised.long; below = λ bounds are below. c.raise_at.ensures.raised.below bounds are (c.loop-place.invariant.raised.below bounds are below) }; least = least; less = less; bounds = bounds }
