use Rattle.std.proofs.Common.{◌≡◌, true, ℕ, ◌-◌, ◌<◌, ◌≤◌, length}
use Rattle.table.specs.chains.Table.{comes_before}
use Rattle.table.specs.steps.Kept.{name_at}
use Rattle.table.proofs.parts.Parts.search.Given as goal

-- the names before `low` come before the name, and those from `high` on after it
abbrev pub invariant-loop-low : goal.invariant-loop-low
invariant-loop-low l = record {
  built_in : 3 ≤ l.low;
  ordered : l.low ≤ l.high;
  within : l.high ≤ length l.self.order.items;
  below : (k : ℕ) → 3 ≤ k → k < l.low → comes_before (name_at l.self.chains.slots l.self.order.items k) l.name ≡ true;
  above : (k : ℕ) → l.high ≤ k → k < length l.self.order.items → comes_before l.name (name_at l.self.chains.slots l.self.order.items k) ≡ true;
}

abbrev pub decreases-loop-low : goal.decreases-loop-low
decreases-loop-low l = l.high - l.low
