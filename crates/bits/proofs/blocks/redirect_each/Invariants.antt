use Rattle.std.proofs.Common.{◌≡◌, ◌++◌, length, map, take, drop}
use Rattle.bits.specs.steps.Held.{redirected}
use Rattle.bits.proofs.blocks.redirect_each.Given as goal

abbrev pub invariant-loop-k : goal.invariant-loop-k
invariant-loop-k l = (length l.blocks ≡ length l.fn.blocks) × (l.blocks ≡ map (map (redirected l.fn.from l.fn.to)) (take l.k l.fn.blocks) ++ drop l.k l.fn.blocks)
