use Rattle.std.proofs.Common.{◌≡◌, ◌++◌, length, map, take, drop}
use Rattle.bits.specs.steps.Held.{redirected}
use Rattle.bits.proofs.block.redirect.Given as goal

abbrev pub invariant-loop-k : goal.invariant-loop-k
invariant-loop-k l = (length l.numbers ≡ length l.fn.numbers) × (l.numbers ≡ map (redirected l.fn.from l.fn.to) (take l.k l.fn.numbers) ++ drop l.k l.fn.numbers)
