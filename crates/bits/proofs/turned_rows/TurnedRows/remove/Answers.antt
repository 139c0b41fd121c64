use Rattle.std.proofs.Common.{◌∙◌, ap}
use Rattle.bits.specs.TurnedRows.{turned_rows}
use Rattle.bits.proofs.laws.TurnedRowsLaws.{seen_rows, removed_seen}
use Rattle.bits.proofs.turned_rows.TurnedRows.remove.Goals as goal

pub returns-clause-rows : goal.returns-clause-rows
returns-clause-rows c =
    let s = seen_rows _ _ c.self.invariant c.self.view_is in
    ap turned_rows c.remove.ensures.rows ∙ (removed_seen _ _ c.args.row c.own-own.result s c.own-own.ensures).seen
