use Rattle.std.proofs.Common.{◌≢◌, ℕ, ◌+◌, ◌<◌, get_or}
use Rattle.bits.specs.steps.Summaries.{IsMarked}
use Rattle.bits.proofs.row_part.RowPart.summary.Given as goal

abbrev pub invariant-loop-k : goal.invariant-loop-k
invariant-loop-k l = (j : ℕ) → j < l.k → get_or l.self.words j 0 ≢ 0 → IsMarked l.summary (l.self.start + j)
