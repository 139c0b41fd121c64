use Rattle.std.proofs.Common.{◌≡◌, ◌≤◌, ◌<◌, ℕ, length, get_or, false}
use Rattle.std.specs.Prelude.{slice_index}
use Rattle.bits.specs.steps.Held.{words_in}
use Rattle.bits.specs.steps.Packing.{all_bits}
use Rattle.bits.proofs.each_row.alike_from.Given as goal

abbrev pub invariant-loop-first : goal.invariant-loop-first
invariant-loop-first l = record {
  within : l.first ≤ length l.slots;
  alike : (k : ℕ) → l.first ≤ k → k < length l.slots → get_or (all_bits (words_in l.words.width l.words.words (slice_index l.slots k))) l.at false ≡ l.bit;
}

abbrev pub decreases-loop-first : goal.decreases-loop-first
decreases-loop-first l = l.first
