use Rattle.std.proofs.Common.{◌∙◌, ◌<◌, ap, sym, subst, arith, get_or, set, [], List, Bool}
use Rattle.std.specs.Prelude.{not}
use Rattle.bits.specs.TurnedRows.{turned_rows, AreAsLong}
use Rattle.bits.proofs.laws.TurnedRowsLaws.{seen_rows, kept_size, each_long, turned_seen}
use Rattle.bits.proofs.turned_rows.TurnedRows.turn_all.Goals as goal

pub get-turn-requires-clause-place : goal.get-turn-requires-clause-place
get-turn-requires-clause-place c =
    let s = seen_rows _ _ c.self.invariant c.self.view_is in
    each_long (λ n. c.args.at < n) _ _ s c.requires.some c.requires.place 0 [] (omega (arith, kept_size _ _ s))

pub set-requires-clause-place : goal.set-requires-clause-place
set-requires-clause-place c =
    let s = seen_rows _ _ c.self.invariant c.self.view_is in
    each_long (λ n. c.args.at < n) _ _ s c.requires.some c.requires.place 0 [] (omega (arith, kept_size _ _ s))

pub invariant_of-self : goal.invariant_of-self
invariant_of-self c =
    let kept : List (List Bool) = c.self.inside.rows.rows in
    subst AreAsLong (sym (c.set.ensures.rows ∙ ap (λ (b : Bool). set kept 0 (set (get_or kept 0 []) c.args.at (not b))) c.get-turn.ensures))
    (turned_seen _ _ c.args.at (seen_rows _ _ c.self.invariant c.self.view_is)).alike

pub returns-clause-rows : goal.returns-clause-rows
returns-clause-rows c =
    let kept : List (List Bool) = c.self.inside.rows.rows in
    ap turned_rows (c.set.ensures.rows ∙ ap (λ (b : Bool). set kept 0 (set (get_or kept 0 []) c.args.at (not b))) c.get-turn.ensures)
    ∙ (turned_seen _ _ c.args.at (seen_rows _ _ c.self.invariant c.self.view_is)).seen
