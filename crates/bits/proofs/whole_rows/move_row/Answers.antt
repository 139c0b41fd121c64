use Rattle.std.proofs.Common.{◌≡◌, ◌∙◌, length, rules, subst, List, ℕ}
use Rattle.bits.specs.steps.Held.{Makes, words_in}
use Rattle.bits.proofs.laws.RowsLaws.{slice_written, row_lent_size, whole_row, row_changed_by}
use Rattle.bits.proofs.whole_rows.move_row.Goals as goal

pub returns-clause-row : goal.returns-clause-row
returns-clause-row c = λ count size lt.
    let w : ℕ = c.args.width in
    let ws : List ℕ = c.args.wholes.now.items in
    let held : c.args.wholes.now.len ≡ length ws = search rules in
    let lent : c.slice_mut.result.now ≡ words_in w ws c.args.i = c.slice_mut.ensures.value ∙ whole_row w c.args.i ws in
    let long = row_lent_size w count c.args.i ws c.slice_mut.result.now c.make.new.words size lt c.slice_mut.ensures.value c.make.auto.words in
    let Q : List ℕ → Type 0 = λ row. Makes c.args.how row c.make.new.words in
    row_changed_by (Makes c.args.how) w count c.args.i c.make.new.words ws _ size lt long (slice_written w count c.args.i c.args.wholes.now.len c.make.new.words ws size lt long held) (subst Q lent c.make.ensures.made)
