use Rattle.std.proofs.Common.{◌≡◌, ℕ, ◌+◌, ◌<◌, ◌≤◌, length}
use Rattle.std.specs.Prelude.{slice_index}
use Rattle.bits.proofs.blocks.more_from.Given as goal

abbrev pub invariant-loop-k : goal.invariant-loop-k
invariant-loop-k l = record {
  as_long : length l.numbers ≡ length l.fn.numbers;
  below : (k : ℕ) → k < l.at → slice_index l.numbers k ≡ slice_index l.fn.numbers k;
  written : (k : ℕ) → l.at ≤ k → k < l.k → slice_index l.numbers k ≡ slice_index l.fn.numbers k + l.by;
  left : (k : ℕ) → l.k ≤ k → slice_index l.numbers k ≡ slice_index l.fn.numbers k;
}
