use Rattle.std.proofs.Common.{◌∙◌, ap, arith, get_or, set, [], List, Bool}
use Rattle.std.proofs.Math.Bool.{not, beq}
use Rattle.bits.specs.TurnedRows.{turned_rows}
use Rattle.bits.proofs.laws.TurnedRowsLaws.{differ, seen_rows, kept_size, seen_long, written_seen}
use Rattle.bits.proofs.turned_rows.TurnedRows.set.Goals as goal

pub get-turn-requires-clause-place : goal.get-turn-requires-clause-place
get-turn-requires-clause-place c =
    let s = seen_rows _ _ c.self.invariant c.self.view_is in
    omega (arith, c.requires.place, seen_long _ _ c.args.row 0 s c.requires.row (omega (arith, kept_size _ _ s)))

pub set-requires-clause-place : goal.set-requires-clause-place
set-requires-clause-place c =
    let s = seen_rows _ _ c.self.invariant c.self.view_is in
    omega (arith, c.requires.place, seen_long _ _ c.args.row c.own-own.result s c.requires.row (omega (arith, c.own-own.ensures, c.requires.row, kept_size _ _ s)))

pub returns-clause-rows : goal.returns-clause-rows
returns-clause-rows c =
    let s = seen_rows _ _ c.self.invariant c.self.view_is in
    let kept : List (List Bool) = c.self.inside.rows.rows in
    let bit = (λ i. not (beq (c.get-turn.ensures i) c.args.bit)) ∙ differ _ c.args.bit in
    ap turned_rows (c.set.ensures.rows ∙ ap (λ (b : Bool). set kept c.own-own.result (set (get_or kept c.own-own.result []) c.args.at b)) bit)
    ∙ (written_seen _ _ c.args.row c.own-own.result c.args.at c.args.bit s c.own-own.ensures c.requires.row).seen
