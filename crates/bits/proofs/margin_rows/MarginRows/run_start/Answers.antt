use Rattle.std.proofs.Common.{◌-◌, ◌∙◌, sym, arith, []}
use Rattle.bits.proofs.laws.MarginLaws.{shown_rows, bit-after, long-after, reach-after}
use Rattle.bits.proofs.margin_rows.MarginRows.run_start.Goals as goal

pub overflow_add-self-inside : goal.overflow_add-self-inside
overflow_add-self-inside c =
    let e = shown_rows _ _ _ _ c.self.invariant c.self.view_is in
    omega (arith, c.bits-bits.ensures, reach-after c.self.inside.margin c.args.at c.args.self.now.rows c.self.inside.rows.rows e c.requires.place c.args.row [] (omega (arith, c.requires.row, long-after c.self.inside.margin c.args.self.now.rows c.self.inside.rows.rows e)))

pub run_start-requires-clause-place : goal.run_start-requires-clause-place
run_start-requires-clause-place c = reach-after c.self.inside.margin c.args.at c.args.self.now.rows c.self.inside.rows.rows (shown_rows _ _ _ _ c.self.invariant c.self.view_is) c.requires.place

pub returns-clause-alike : goal.returns-clause-alike
returns-clause-alike c k low high =
    let e = shown_rows _ _ _ _ c.self.invariant c.self.view_is in
    let m = c.self.inside.margin in
    sym (bit-after m c.args.at k c.args.self.now.rows c.self.inside.rows.rows e (omega (arith, c.requires.row)))
    ∙ c.run_start.ensures.alike k (omega (arith, low, c.run_start.ensures.within)) high
    ∙ bit-after m c.args.at c.args.row c.args.self.now.rows c.self.inside.rows.rows e c.requires.row

pub returns-clause-first : goal.returns-clause-first
returns-clause-first c more same =
    let e = shown_rows _ _ _ _ c.self.invariant c.self.view_is in
    let m = c.self.inside.margin in
    c.run_start.ensures.first more
    (bit-after m c.args.at (c.run_start.result - 1) c.args.self.now.rows c.self.inside.rows.rows e (omega (arith, c.requires.row, c.run_start.ensures.within))
    ∙ same
    ∙ sym (bit-after m c.args.at c.args.row c.args.self.now.rows c.self.inside.rows.rows e c.requires.row))
