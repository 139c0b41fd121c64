use Rattle.std.proofs.Common.{◌-◌, ◌^◌}
use Rattle.bits.proofs.laws.ShiftLaws.{Fallen}
use Rattle.bits.proofs.words.shift_out.Given as goal

abbrev pub invariant-loop-k : goal.invariant-loop-k
invariant-loop-k l = Fallen l.fn.words l.at l.words l.k (2 ^ 64 - 1)
