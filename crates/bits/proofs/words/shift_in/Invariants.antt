use Rattle.bits.specs.steps.Packing.{top_bit}
use Rattle.bits.proofs.words.shift_in.Given as goal
use Rattle.bits.proofs.laws.BitLaws.{Carried}

-- the bits so far, and the carry before the rest, are the bits with the new one
abbrev pub invariant-loop-k : goal.invariant-loop-k
invariant-loop-k l = Carried l.fn.words l.at l.bit l.words l.k 0 (top_bit l.below)
