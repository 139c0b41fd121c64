use Rattle.std.proofs.Common.{◌≡◌, ◌*◌, ◌≤◌, ◌%◌, ◌-◌}
use Rattle.bits.specs.steps.Summaries.{Nowhere}
use Rattle.classify.specs.steps.CommonPlaces.{HaveAll}
use Rattle.classify.proofs.search.scan_fours.Given as goal

abbrev pub invariant-loop-four : goal.invariant-loop-four
invariant-loop-four l = record { low : l.start ≤ l.four; high : l.four ≤ l.words; aligned : l.four % 4 ≡ 0; none : Nowhere (HaveAll l.rows) (64 * l.start) (64 * l.four) }

abbrev pub decreases-loop-four : goal.decreases-loop-four
decreases-loop-four l = l.words - l.four
