use Rattle.std.proofs.Common.{arith, ◌/◌}
use Rattle.bits.proofs.laws.BlockPlaceLaws.{all_around, four_ways}
use Rattle.bits.proofs.places.narrowed.Goals as goal

pub loop-width-init : goal.loop-width-init
loop-width-init c = all_around c.args.x c.args.numbers.now

pub loop-width-preserved : goal.loop-width-preserved
loop-width-preserved c =
    four_ways c.args.x c.args.numbers.now c.loop-width.low c.loop-width.width (c.loop-width.width / 4) c.quarters.result c.requires c.loop-width.invariant (omega arith) (omega arith) c.quarters.ensures.few c.quarters.ensures.yes c.quarters.ensures.no
