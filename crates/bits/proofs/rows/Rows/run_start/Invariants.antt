use Rattle.std.proofs.Common.{◌≡◌, ◌≤◌, ℕ, [], get_or, false}
use Rattle.bits.proofs.rows.Rows.run_start.Given as goal

abbrev pub invariant-loop-first : goal.invariant-loop-first
invariant-loop-first l = record {
  within : l.first ≤ l.row;
  alike : (k : ℕ) → l.first ≤ k → k ≤ l.row → get_or (get_or l.self.rows k []) l.at false ≡ l.bit;
  bit : l.bit ≡ get_or (get_or l.self.rows l.row []) l.at false;
}

abbrev pub decreases-loop-first : goal.decreases-loop-first
decreases-loop-first l = l.first
