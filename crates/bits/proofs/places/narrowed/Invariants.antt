use Rattle.std.proofs.Common.{◌+◌}
use Rattle.bits.specs.steps.Blocks.{AreAround}
use Rattle.bits.proofs.places.narrowed.Given as goal

abbrev pub invariant-loop-width : goal.invariant-loop-width
invariant-loop-width l = AreAround l.x l.low (l.low + l.width) l.numbers

abbrev pub decreases-loop-width : goal.decreases-loop-width
decreases-loop-width l = l.width
