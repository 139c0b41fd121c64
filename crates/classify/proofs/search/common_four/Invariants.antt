use Rattle.std.proofs.Common.{take}
use Rattle.classify.specs.steps.CommonPlaces.{AreAndsAt}
use Rattle.classify.proofs.search.common_four.Given as goal

abbrev pub invariant-loop-row : goal.invariant-loop-row
invariant-loop-row l = AreAndsAt l.all (take l.row-index l.rows) l.place
