use Rattle.std.proofs.Common.{length}
use Rattle.bits.specs.steps.Held.{Makes}
use Rattle.bits.proofs.laws.SlotWordsLaws.{ChangedAndSummed}
use Rattle.bits.proofs.each_row.move_all.Given as goal

abbrev pub invariant-loop-slot : goal.invariant-loop-slot
invariant-loop-slot l = ChangedAndSummed (Makes l.how) (length l.fn.summaries.items) l.fn.words l.words l.summaries.items l.slot
