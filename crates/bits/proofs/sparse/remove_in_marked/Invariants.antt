use Rattle.std.proofs.Common.{◌-◌, ◌≤◌, length}
use Rattle.bits.proofs.sparse.remove_in_marked.Given as goal
use Rattle.bits.proofs.laws.ShiftLaws.{Fallen}

-- the bits of the words so far are those that are left
abbrev pub invariant-loop-k : goal.invariant-loop-k
invariant-loop-k l = record {
  fallen : Fallen l.fn.words l.at l.words l.k l.new;
  within : l.k ≤ length l.words;
}

abbrev pub decreases-loop-k : goal.decreases-loop-k
decreases-loop-k l = length l.words - l.k
