use Rattle.std.proofs.Common.{◌*◌}
use Rattle.bits.specs.steps.Summaries.{Nowhere}
use Rattle.classify.specs.steps.CommonPlaces.{HaveAll}
use Rattle.classify.proofs.search.scan.Given as goal

abbrev pub invariant-loop-place : goal.invariant-loop-place
invariant-loop-place l = Nowhere (HaveAll l.rows) (64 * l.start) (64 * l.place)
