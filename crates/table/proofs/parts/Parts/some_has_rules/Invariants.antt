use Rattle.std.proofs.Common.{ℕ, ◌<◌, ◌≤◌, length, get_or}
use Rattle.table.specs.steps.Kept.{stored_at}
use Rattle.table.proofs.parts.Parts.some_has_rules.Given as goal

-- the user chains that were passed have no rules
abbrev pub invariant-loop-place : goal.invariant-loop-place
invariant-loop-place l = (k : ℕ) → 3 ≤ k → k < l.place → length (stored_at l.self.chains.slots (get_or l.self.order.items k 0)).entries ≤ 0
