use Rattle.bits.proofs.laws.BlockPlaceLaws.{begins_are}
use Rattle.bits.proofs.blocks.Blocks.make_room.Goals as goal

pub holder-block-requires-clause-rising : goal.holder-block-requires-clause-rising
holder-block-requires-clause-rising c = begins_are c.self.inside.first _ _ c.self.inside.later.items c.deref.result.now c.self.invariant c.deref.ensures.value
