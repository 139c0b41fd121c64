use Rattle.std.proofs.Common.{◌≡◌, inl, inr, ℕ, ◌-◌, ◌+◌, ◌*◌, ◌⊎◌, false, arith, length, min, subst, List}
use Rattle.bits.specs.steps.Held.{TakesIn}
use Rattle.bits.specs.steps.StoredRows.{part_row}
use Rattle.bits.proofs.laws.PartLaws.{taken_in_part}
use Rattle.bits.proofs.row_part.RowPart.take_in.Goals.{else-top-via-then-top+else-self-width, else-top-via-else-top}
use Rattle.bits.proofs.row_part.RowPart.take_in.Goals as goal

pub returns-clause-taken : goal.returns-clause-taken
returns-clause-taken c = λ made.
    let part = c.slide_up.new.self in
    let four : length part.words ≡ 4 = c.slide_up.ensures.four in
    let P : List ℕ → Type 0 = λ row. TakesIn c.args.at row (part_row c.args.width record { start = part.start; words = c.shift_in-top.new.words }) in
    let from : c.min-from.result ≡ min (c.args.at - 64 * part.start) (64 * length part.words) = omega arith in
    let stays : (c.shift_in-top.result ≡ false) ⊎ (c.args.width - (part.start + 4) ≡ 0) = elim c.else-top.branch [
      | else-top-via-then-top+else-self-width w ↦ inr (omega (arith, w.if-self-width.false))
      | else-top-via-else-top w ↦ inl w.if-top.false
    ] in
    subst P c.slide_up.ensures.same
    (taken_in_part part.start (c.args.width - (part.start + 4)) c.args.at c.min-from.result part.words c.shift_in-top.new.words c.shift_in-top.result (omega arith) from c.shift_in-top.ensures stays)
