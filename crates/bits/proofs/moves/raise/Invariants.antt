use Rattle.bits.specs.steps.Blocks.{Raised}
use Rattle.bits.proofs.moves.raise.Given as goal

abbrev pub invariant-loop-end : goal.invariant-loop-end
invariant-loop-end l = Raised l.by l.at l.fn.items l.items l.end

abbrev pub decreases-loop-end : goal.decreases-loop-end
decreases-loop-end l = l.end
