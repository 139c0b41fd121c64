use Rattle.std.proofs.Common.{◌≡◌, ◌≤◌, length, take}
use Rattle.bits.proofs.rows.keep_two.Given as goal

abbrev pub invariant-loop-slots : goal.invariant-loop-slots
invariant-loop-slots l = record { kept : take 2 l.slots ≡ take 2 l.fn.slots; some : 2 ≤ length l.slots }

abbrev pub decreases-loop-slots : goal.decreases-loop-slots
decreases-loop-slots l = length l.slots
