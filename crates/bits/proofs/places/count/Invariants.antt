use Rattle.std.proofs.Common.{ℕ, ◌<◌, ◌≤◌}
use Rattle.std.specs.Prelude.{slice_index}
use Rattle.bits.proofs.places.count.Given as goal

abbrev pub invariant-loop-place : goal.invariant-loop-place
invariant-loop-place l = record {
  order : l.count ≤ l.place;
  below : (k : ℕ) → k < l.count → slice_index l.numbers k ≤ l.x;
  above : (k : ℕ) → l.count ≤ k → k < l.place → l.x < slice_index l.numbers k;
}
