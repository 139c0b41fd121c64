use Rattle.std.proofs.Common.{take}
use Rattle.classify.specs.steps.CommonPlaces.{IsAndAt}
use Rattle.classify.proofs.search.and_at.Given as goal

abbrev pub invariant-loop-row : goal.invariant-loop-row
invariant-loop-row l = IsAndAt l.all (take l.row-index l.rows) l.place
