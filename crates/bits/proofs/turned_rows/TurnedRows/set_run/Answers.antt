use Rattle.std.proofs.Common.{◌∙◌, ◌+◌, ◌<◌, arith, subst, [], Bool}
use Rattle.std.proofs.Math.Bool.{not, beq}
use Rattle.bits.specs.Rows.{IsRunWritten}
use Rattle.bits.proofs.laws.RunLaws.{run_alike, run_seen}
use Rattle.bits.proofs.laws.TurnedRowsLaws.{differ, seen_rows, kept_size, each_long}
use Rattle.bits.proofs.turned_rows.TurnedRows.set_run.Goals as goal

pub get-turn-requires-clause-place : goal.get-turn-requires-clause-place
get-turn-requires-clause-place c =
    let s = seen_rows _ _ c.self.invariant c.self.view_is in
    each_long (λ n. c.args.at < n) _ _ s (omega (arith, c.if-from-to.false, c.requires.order, c.requires.within)) c.requires.place 0 [] (omega (arith, kept_size _ _ s))

pub set_run-requires-clause-place : goal.set_run-requires-clause-place
set_run-requires-clause-place c =
    each_long (λ n. c.args.at < n) _ _ (seen_rows _ _ c.self.invariant c.self.view_is) (omega (arith, c.if-from-to.false, c.requires.order, c.requires.within)) c.requires.place

pub invariant_of-self : goal.invariant_of-self
invariant_of-self c = run_alike _ _ _ _ _ _ c.self.invariant c.set_run.ensures.rows

pub returns-clause-rows : goal.returns-clause-rows
returns-clause-rows c =
    let P : Bool → Type 0 = λ b. IsRunWritten c.args.at b (c.args.from + 1) (c.args.to + 1) c.self.inside.rows.rows c.set_run.new.self.rows in
    run_seen _ _ _ _ _ _ _ (seen_rows _ _ c.self.invariant c.self.view_is) c.requires.order c.requires.within
    (subst P ((λ i. not (beq (c.get-turn.ensures i) c.args.bit)) ∙ differ _ c.args.bit) c.set_run.ensures.rows)
