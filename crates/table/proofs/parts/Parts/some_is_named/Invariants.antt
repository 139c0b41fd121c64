use Rattle.std.proofs.Common.{ℕ, ◌<◌, ◌≤◌, get_or}
use Rattle.table.specs.steps.Kept.{references_at}
use Rattle.table.proofs.parts.Parts.some_is_named.Given as goal

-- no rule names the user chains that were passed
abbrev pub invariant-loop-place : goal.invariant-loop-place
invariant-loop-place l = (k : ℕ) → 3 ≤ k → k < l.place → references_at l.self.chains.slots (get_or l.self.order.items k 0) ≤ 0
