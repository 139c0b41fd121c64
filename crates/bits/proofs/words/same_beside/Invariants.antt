use Rattle.std.proofs.Common.{◌*◌}
use Rattle.bits.specs.steps.Packing.{all_bits, AreAlikeBeside}
use Rattle.bits.specs.steps.StoredRows.{words_of}
use Rattle.bits.proofs.words.same_beside.Given as goal

abbrev pub invariant-loop-k : goal.invariant-loop-k
invariant-loop-k l = AreAlikeBeside l.at (64 * l.k) (all_bits (words_of l.one)) (all_bits (words_of l.other))
