use Rattle.bits.proofs.laws.HeldLaws.{Widened}
use Rattle.bits.proofs.each_row.widen.Given as goal

abbrev pub invariant-loop-slot : goal.invariant-loop-slot
invariant-loop-slot l = Widened l.fn.width l.fn.wider l.fn.words l.wide.items l.slot
