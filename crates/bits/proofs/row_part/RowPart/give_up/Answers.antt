use Rattle.std.proofs.Common.{◌≡◌, ℕ, ◌-◌, ◌+◌, ◌*◌, ◌<◌, ◌%◌, false, arith, get_or, length, subst, List}
use Rattle.std.proofs.lemmas.Bool.{ne_eqb}
use Rattle.bits.specs.steps.Held.{GivesUp}
use Rattle.bits.specs.steps.StoredRows.{part_row}
use Rattle.bits.specs.steps.Packing.{low_bit}
use Rattle.bits.proofs.laws.PartLaws.{given_after_part, given_up_by_part}
use Rattle.bits.proofs.row_part.RowPart.give_up.Goals.{else-at-first-2-via-then-at-first-2+else-self-eq1, else-at-first-2-via-else-at-first-2}
use Rattle.bits.proofs.row_part.RowPart.give_up.Goals as goal

pub returns-then-at-first-clause-given : goal.returns-then-at-first-clause-given
returns-then-at-first-clause-given c = λ made.
    let part = c.slide_down.new.self in
    let four : length part.words ≡ 4 = c.slide_down.ensures.four in
    let P : List ℕ → Type 0 = λ row. GivesUp c.args.at row (part_row c.args.width part) in
    subst P c.slide_down.ensures.same (given_after_part part.start (c.args.width - (part.start + 4)) c.args.at part.words (omega arith) (omega arith))

pub returns-clause-given : goal.returns-clause-given
returns-clause-given c = λ made.
    let part = c.slide_down.new.self in
    let four : length part.words ≡ 4 = c.slide_down.ensures.four in
    let none : c.args.at < 64 * part.start → low_bit (get_or part.words 0 0) ≡ false = λ before. elim c.else-at-first-2.branch [
      | else-at-first-2-via-then-at-first-2+else-self-eq1 w ↦ ne_eqb (get_or part.words 0 0 % 2) 1 w.if-self-eq1.false
      | else-at-first-2-via-else-at-first-2 w ↦ absurd (omega (arith, w.if-at-first-2.false))
    ] in
    let P : List ℕ → Type 0 = λ row. GivesUp c.args.at row (part_row c.args.width record { start = part.start; words = c.shift_out.new.words }) in
    subst P c.slide_down.ensures.same
    (given_up_by_part part.start (c.args.width - (part.start + 4)) c.args.at c.saturating_sub.result part.words c.shift_out.new.words (omega arith) (omega arith) (omega arith) c.shift_out.ensures none)
