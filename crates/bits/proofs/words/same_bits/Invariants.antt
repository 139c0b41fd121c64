use Rattle.std.proofs.Common.{◌≡◌, take}
use Rattle.bits.specs.steps.StoredRows.{words_of}
use Rattle.bits.proofs.words.same_bits.Given as goal

abbrev pub invariant-loop-k : goal.invariant-loop-k
invariant-loop-k l = take l.k (words_of l.one) ≡ take l.k (words_of l.other)
