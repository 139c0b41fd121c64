use Rattle.std.proofs.Common.{◌≡◌, take}
use Rattle.bits.proofs.blocks.copies.Given as goal

abbrev pub invariant-loop-k : goal.invariant-loop-k
invariant-loop-k l = l.copies.items ≡ take l.k l.blocks
