use Rattle.std.proofs.Common.{◌*◌, ◌+◌}
use Rattle.bits.specs.steps.Summaries.{Nowhere}
use Rattle.classify.specs.steps.CommonPlaces.{HaveAll}
use Rattle.classify.proofs.search.first_of_four.Given as goal

abbrev pub invariant-loop-lane : goal.invariant-loop-lane
invariant-loop-lane l = Nowhere (HaveAll l.rows) (64 * l.place) (64 * (l.place + l.lane))
