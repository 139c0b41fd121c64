use Rattle.std.proofs.Common.{◌<◌, arith, length, []}
use Rattle.bits.proofs.laws.MarginLaws.{shown_rows, long-after, reach-after, run-after}
use Rattle.bits.proofs.margin_rows.MarginRows.set_run.Goals as goal

pub overflow_add-self-inside : goal.overflow_add-self-inside
overflow_add-self-inside c =
    let e = shown_rows _ _ _ _ c.self.invariant c.self.view_is in
    let there : c.args.from < length c.self.inside.rows.rows = omega (arith, c.if-from-to.false, c.requires.order, c.requires.within, long-after c.self.inside.margin c.args.self.now.rows c.self.inside.rows.rows e) in
    omega (arith, c.bits-bits.ensures, reach-after c.self.inside.margin c.args.at c.args.self.now.rows c.self.inside.rows.rows e c.requires.place c.args.from [] there)

pub set_run-requires-clause-within : goal.set_run-requires-clause-within
set_run-requires-clause-within c = omega (arith, c.requires.within, long-after c.self.inside.margin c.args.self.now.rows c.self.inside.rows.rows (shown_rows _ _ _ _ c.self.invariant c.self.view_is))

pub set_run-requires-clause-place : goal.set_run-requires-clause-place
set_run-requires-clause-place c = reach-after c.self.inside.margin c.args.at c.args.self.now.rows c.self.inside.rows.rows (shown_rows _ _ _ _ c.self.invariant c.self.view_is) c.requires.place

pub invariant_of-self : goal.invariant_of-self
invariant_of-self c = (run-after c.self.inside.margin c.args.at c.args.bit c.args.from c.args.to c.args.self.now.rows c.self.inside.rows.rows c.set_run.new.self.rows (shown_rows _ _ _ _ c.self.invariant c.self.view_is) c.requires.within c.set_run.ensures.rows).0

pub returns-clause-rows : goal.returns-clause-rows
returns-clause-rows c = (run-after c.self.inside.margin c.args.at c.args.bit c.args.from c.args.to c.args.self.now.rows c.self.inside.rows.rows c.set_run.new.self.rows (shown_rows _ _ _ _ c.self.invariant c.self.view_is) c.requires.within c.set_run.ensures.rows).1
