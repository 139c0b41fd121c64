use Rattle.std.proofs.Common.{length}
use Rattle.bits.proofs.laws.SlotWordsLaws.{WrittenAndSummed}
use Rattle.bits.proofs.each_row.write_each.Given as goal

abbrev pub invariant-loop-k : goal.invariant-loop-k
invariant-loop-k l = WrittenAndSummed l.at l.bit (length l.fn.summaries) l.k l.slots l.fn.words l.words l.summaries
