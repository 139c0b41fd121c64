use Rattle.std.proofs.Common.{ap, arith}
use Rattle.bits.specs.MarginRows.{RowsInRoom}
use Rattle.bits.proofs.laws.TurnedRowsLaws.{lent_packed, lent_bits, lent_summed, seen_rows, kept_size, seen_long, row_seen}
use Rattle.bits.proofs.turned_rows.TurnedRows.row.Goals as goal

pub returns-clause-own : goal.returns-clause-own
returns-clause-own c =
    let s = seen_rows _ _ c.self.invariant c.self.view_is in
    lent_packed _ _ _ _ _ (ap (λ (r : RowsInRoom). r.room.before) c.self.view_is) (seen_long _ _ c.args.row c.own-own.result s c.requires (omega (arith, c.own-own.ensures, c.requires, kept_size _ _ s))) c.row.ensures.packed

pub returns-clause-turn : goal.returns-clause-turn
returns-clause-turn c =
    let s = seen_rows _ _ c.self.invariant c.self.view_is in
    lent_packed _ _ _ _ _ (ap (λ (r : RowsInRoom). r.room.before) c.self.view_is) (seen_long _ _ c.args.row 0 s c.requires (omega (arith, kept_size _ _ s))) c.row-2.ensures.packed

pub returns-clause-bits : goal.returns-clause-bits
returns-clause-bits c =
    let s = seen_rows _ _ c.self.invariant c.self.view_is in
    lent_bits _ _ _ _ _ _ _ (ap (λ (r : RowsInRoom). r.room.before) c.self.view_is)
    (seen_long _ _ c.args.row c.own-own.result s c.requires (omega (arith, c.own-own.ensures, c.requires, kept_size _ _ s)))
    (seen_long _ _ c.args.row 0 s c.requires (omega (arith, kept_size _ _ s)))
    (row_seen _ _ c.args.row c.own-own.result s c.own-own.ensures c.requires) c.row-2.ensures.bits c.row.ensures.bits

pub returns-clause-summed : goal.returns-clause-summed
returns-clause-summed c =
    let s = seen_rows _ _ c.self.invariant c.self.view_is in
    lent_summed _ _ _ _ _ _ _ (ap (λ (r : RowsInRoom). r.room.before) c.self.view_is) (row_seen _ _ c.args.row c.own-own.result s c.own-own.ensures c.requires) c.summary.ensures c.summary-2.ensures
