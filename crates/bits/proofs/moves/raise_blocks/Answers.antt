use Rattle.std.proofs.Common.{arith, ◌-◌}
use Rattle.bits.proofs.laws.BlockEditLaws.{raised_start, raised_block}
use Rattle.bits.proofs.moves.raise_blocks.Goals as goal

pub loop-end-init : goal.loop-end-init
loop-end-init c = raised_start c.args.by c.args.at c.args.items.now c.requires

pub loop-end-preserved : goal.loop-end-preserved
loop-end-preserved c =
    raised_block c.args.by c.args.at c.args.items.now c.loop-end.items c.loop-end.end (c.loop-end.end - 16) (c.loop-end.end - 16 - c.args.by) c.loop-end.invariant (omega arith) (omega arith) (omega arith)
