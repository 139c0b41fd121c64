use Rattle.std.proofs.Common.{arith, ◌-◌}
use Rattle.bits.proofs.laws.BlockEditLaws.{raised_one, raised_low, raised_high}
use Rattle.bits.proofs.moves.raise.Goals as goal

pub loop-end-preserved : goal.loop-end-preserved
loop-end-preserved c =
    raised_one c.args.by c.args.at c.args.items.now c.loop-end.items c.loop-end.end (c.loop-end.end - 1) (c.loop-end.end - 1 - c.args.by) c.loop-end.invariant (omega arith) (omega arith) (omega arith)

pub returns-clause-low : goal.returns-clause-low
returns-clause-low c = raised_low c.args.by c.args.at c.args.items.now c.loop-end.items c.loop-end.end c.loop-end.invariant

pub returns-clause-high : goal.returns-clause-high
returns-clause-high c = raised_high c.args.by c.args.at c.args.items.now c.loop-end.items c.loop-end.end c.loop-end.invariant (omega arith)
