use Rattle.std.proofs.Common.{arith, ap, get_or, ◌<◌, ◌+◌, sym, subst, refl, length, ℕ}
use Rattle.std.proofs.Math.ListN.{set}
use Rattle.std.proofs.lemmas.Bool.{false≢true}
use Rattle.classify.specs.steps.Fields.{IsRoomier, TakesNoneBeside}
use Rattle.classify.proofs.laws.line.LoopLaws.{Edited, edited_more, edited_anyway, edited_weaker}
use Rattle.classify.specs.steps.Kept.{PiecesAndRoom}
use Rattle.classify.proofs.classifier.lines.reserve_lines.Goals as goal

pub returns-in_err-reserve-clause-more : goal.returns-in_err-reserve-clause-more
returns-in_err-reserve-clause-more c k l lt =
    let R : ℕ → PiecesAndRoom → PiecesAndRoom → Type 0 = λ j p q. IsRoomier p q in
    let h : Edited R c.args.lines.now c.loop-k.lines c.loop-k.k = edited_weaker _ R c.args.lines.now c.loop-k.lines c.loop-k.k (λ j p q r. r.0) c.loop-k.invariant in
    let m : Edited R c.args.lines.now (set c.loop-k.lines c.loop-k.k c.reserve.new.self) (c.loop-k.k + 1) =
    edited_more R c.args.lines.now c.loop-k.lines c.loop-k.k (get_or c.loop-k.lines c.loop-k.k c.index-lines-k.result) c.reserve.new.self h (omega (arith, h.as_long))
    (ap (λ (d : PiecesAndRoom). get_or c.loop-k.lines c.loop-k.k d) c.index-lines-k.is) (c.reserve.ensures.more) in
    edited_anyway R c.args.lines.now _ (c.loop-k.k + 1) k l m (λ _. record { same = refl; room = record { more = omega arith; before = refl } })

pub returns-in_err-reserve-clause-kept : goal.returns-in_err-reserve-clause-kept
returns-in_err-reserve-clause-kept c k l lt =
    let R : ℕ → PiecesAndRoom → PiecesAndRoom → Type 0 = λ j p q. TakesNoneBeside c.args.at p q in
    let h : Edited R c.args.lines.now c.loop-k.lines c.loop-k.k = edited_weaker _ R c.args.lines.now c.loop-k.lines c.loop-k.k (λ j p q r. r.2) c.loop-k.invariant in
    let m : Edited R c.args.lines.now (set c.loop-k.lines c.loop-k.k c.reserve.new.self) (c.loop-k.k + 1) =
    edited_more R c.args.lines.now c.loop-k.lines c.loop-k.k (get_or c.loop-k.lines c.loop-k.k c.index-lines-k.result) c.reserve.new.self h (omega (arith, h.as_long))
    (ap (λ (d : PiecesAndRoom). get_or c.loop-k.lines c.loop-k.k d) c.index-lines-k.is) (c.reserve.ensures.kept) in
    edited_anyway R c.args.lines.now _ (c.loop-k.k + 1) k l m (λ _. record { after = λ _. refl; blank = λ _. refl; first = λ _ _. refl })

pub returns-in_err-reserve-clause-there : goal.returns-in_err-reserve-clause-there
returns-in_err-reserve-clause-there c room =
    let h = c.loop-k.invariant in
    let lt : c.loop-k.k < length c.args.lines.now = omega (arith, h.as_long) in
    let P : PiecesAndRoom → Type 0 = λ p. 0 < p.room.places in
    absurd (false≢true (c.in_err-reserve.ensures.there (subst P (sym (h.rest c.loop-k.k c.index-lines-k.result (omega arith))) (room c.loop-k.k c.index-lines-k.result lt))))

pub loop-k-preserved : goal.loop-k-preserved
loop-k-preserved c =
    let h = c.loop-k.invariant in
    edited_more _ _ c.loop-k.lines c.loop-k.k (get_or c.loop-k.lines c.loop-k.k c.index-lines-k.result) c.reserve.new.self h (omega (arith, h.as_long))
    (ap (λ (d : PiecesAndRoom). get_or c.loop-k.lines c.loop-k.k d) c.index-lines-k.is) (c.reserve.ensures.more, c.in_ok-reserve.ensures.ok, c.reserve.ensures.kept)

pub returns-clause-more : goal.returns-clause-more
returns-clause-more c k l lt = (c.loop-k.invariant.done k l (omega arith)).0

pub returns-clause-room : goal.returns-clause-room
returns-clause-room c k l lt = (c.loop-k.invariant.done k l (omega arith)).1

pub returns-clause-kept : goal.returns-clause-kept
returns-clause-kept c k l lt = (c.loop-k.invariant.done k l (omega arith)).2
