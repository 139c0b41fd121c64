use Rattle.std.proofs.Common.{◌∙◌, ap, sym, List, Bool}
use Rattle.bits.specs.TurnedRows.{turned}
use Rattle.bits.proofs.laws.TurnedRowsLaws.{same-turned, seen_rows, row_seen, turn_of}
use Rattle.bits.proofs.turned_rows.TurnedRows.same.Goals as goal

pub returns : goal.returns
returns c =
    let s = seen_rows _ _ c.self.invariant c.self.view_is in
    let one = row_seen _ _ c.args.one c.own.result s c.own.ensures c.requires.one in
    let other = row_seen _ _ c.args.other c.own-2.result s c.own-2.ensures c.requires.other in
    (λ t. one ∙ ap (λ (row : List Bool). turned (turn_of c.self.inside.rows.rows) row) (c.same.ensures.0 t) ∙ sym other, λ e. c.same.ensures.1 (same-turned (turn_of c.self.inside.rows.rows) _ _ (sym one ∙ e ∙ other)))
