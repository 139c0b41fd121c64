use Rattle.std.proofs.Common.{◌∙◌, arith}
use Rattle.bits.proofs.laws.TurnedRowsLaws.{seen_rows, kept_size, seen_long}
use Rattle.bits.proofs.turned_rows.TurnedRows.bits.Goals as goal

pub returns : goal.returns
returns c =
    let s = seen_rows _ _ c.self.invariant c.self.view_is in
    c.bits.ensures ∙ seen_long _ _ c.args.row c.own.result s c.requires (omega (arith, c.own.ensures, c.requires, kept_size _ _ s))
