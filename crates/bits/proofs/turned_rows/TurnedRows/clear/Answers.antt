use Rattle.std.proofs.Common.{ap, arith}
use Rattle.bits.specs.MarginRows.{RowsInRoom}
use Rattle.bits.proofs.laws.TurnedRowsLaws.{seen_rows, kept_size, seen_long}
use Rattle.bits.proofs.turned_rows.TurnedRows.clear.Goals as goal

pub returns-clause-places : goal.returns-clause-places
returns-clause-places c =
    let s = seen_rows _ _ c.self.invariant c.self.view_is in
    omega (arith, c.clear.ensures.places, ap (λ (r : RowsInRoom). r.room.places) c.self.view_is, seen_long _ _ 0 0 s c.requires (omega (arith, kept_size _ _ s)))
