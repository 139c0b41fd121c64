use Rattle.std.proofs.Common.{◌+◌, arith, List, ℕ, sym, subst}
use Rattle.arrayvec.specs.ArrayVec.{ArrayVec}
use Rattle.classify.specs.steps.Kept.{AreUnmarked}
use Rattle.classify.proofs.laws.classifier.WholeLaws.{one_unmarked, mark_passed}
use Rattle.classify.proofs.classifier.whole.unmarked.Goals as goal
use Rattle.classify.proofs.classifier.whole.unmarked.Goals.{then-not-marks-k, else-not-marks-k}

pub loop-k-preserved : goal.loop-k-preserved
loop-k-preserved c =
    let P : ArrayVec ℕ → Type 0 = λ places. AreUnmarked c.args.marks.now (c.loop-k.k + 1) places.items in
    let Q : List ℕ → Type 0 = λ places. AreUnmarked c.args.marks.now (c.loop-k.k + 1) places in
    elim c.if-not-marks-k.branch [
      | then-not-marks-k w ↦ subst P (sym w.places-is) (subst Q (sym w.push.ensures.items) (one_unmarked c.args.marks.now c.loop-k.k c.loop-k.places.items (omega arith) c.loop-k.invariant))
      | else-not-marks-k w ↦ subst P (sym w.places-is) (mark_passed c.args.marks.now c.loop-k.k c.loop-k.places.items w.if-not-marks-k.false c.loop-k.invariant)
    ]
