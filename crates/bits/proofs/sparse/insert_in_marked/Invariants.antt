use Rattle.std.proofs.Common.{false, ◌-◌, ◌≤◌, length}
use Rattle.bits.specs.steps.Packing.{top_bit}
use Rattle.bits.proofs.sparse.insert_in_marked.Given as goal
use Rattle.bits.proofs.laws.ShiftLaws.{Risen}

-- the bits so far, and the carry before the rest, are the bits with the new one
abbrev pub invariant-loop-k : goal.invariant-loop-k
invariant-loop-k l = record {
  risen : Risen l.fn.words l.at false l.words l.k 0 (top_bit l.below) l.new;
  within : l.k ≤ length l.words;
}

abbrev pub decreases-loop-k : goal.decreases-loop-k
decreases-loop-k l = length l.words - l.k
