use Rattle.std.proofs.Common.{◌∙◌, sym, arith}
use Rattle.std.proofs.Math.Bool.{not, beq}
use Rattle.bits.proofs.laws.TurnedRowsLaws.{differ, seen_rows, kept_size, seen_long, bit_seen}
use Rattle.bits.proofs.turned_rows.TurnedRows.get.Goals as goal

pub get-requires-clause-place : goal.get-requires-clause-place
get-requires-clause-place c =
    let s = seen_rows _ _ c.self.invariant c.self.view_is in
    omega (arith, c.requires.place, seen_long _ _ c.args.row 0 s c.requires.row (omega (arith, kept_size _ _ s)))

pub get-requires-2-clause-place : goal.get-requires-2-clause-place
get-requires-2-clause-place c =
    let s = seen_rows _ _ c.self.invariant c.self.view_is in
    omega (arith, c.requires.place, seen_long _ _ c.args.row c.own.result s c.requires.row (omega (arith, c.own.ensures, c.requires.row, kept_size _ _ s)))

pub returns : goal.returns
returns c =
    let s = seen_rows _ _ c.self.invariant c.self.view_is in
    (λ i. not (beq (c.get.ensures i) (c.get-2.ensures i))) ∙ differ _ _ ∙ sym (bit_seen _ _ c.args.row c.own.result c.args.at s c.own.ensures c.requires.row c.requires.place)
