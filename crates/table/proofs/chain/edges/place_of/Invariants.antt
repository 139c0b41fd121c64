use Rattle.std.proofs.Common.{◌≢◌, ℕ, ◌<◌, get_or}
use Rattle.table.specs.steps.StoredChains.{ends}
use Rattle.table.proofs.chain.edges.place_of.Given as goal

-- no edge up to the place leads there
abbrev pub invariant-loop-place : goal.invariant-loop-place
invariant-loop-place l = (k : ℕ) → k < l.place → get_or (ends l.edges) k 0 ≢ l.key
