use Rattle.std.proofs.Common.{◌∙◌, ap, sym, arith, List, Bool}
use Rattle.std.specs.List.{remove}
use Rattle.bits.specs.TurnedRows.{turned}
use Rattle.bits.proofs.laws.TurnedRowsLaws.{same-turned, seen_rows, kept_size, seen_long, beside_seen, turn_of}
use Rattle.bits.proofs.turned_rows.TurnedRows.same_beside.Goals as goal

pub same_beside-requires-clause-place : goal.same_beside-requires-clause-place
same_beside-requires-clause-place c =
    let s = seen_rows _ _ c.self.invariant c.self.view_is in
    omega (arith, c.requires.place, seen_long _ _ c.args.one c.own.result s c.requires.one (omega (arith, c.own.ensures, c.requires.one, kept_size _ _ s)))

pub returns : goal.returns
returns c =
    let s = seen_rows _ _ c.self.invariant c.self.view_is in
    let turn : List Bool = remove (turn_of c.self.inside.rows.rows) c.args.at in
    let one = beside_seen _ _ c.args.one c.own.result c.args.at s c.own.ensures c.requires.one in
    let other = beside_seen _ _ c.args.other c.own-2.result c.args.at s c.own-2.ensures c.requires.other in
    (λ t. one ∙ ap (λ (row : List Bool). turned turn row) (c.same_beside.ensures.0 t) ∙ sym other, λ e. c.same_beside.ensures.1 (same-turned turn _ _ (sym one ∙ e ∙ other)))
