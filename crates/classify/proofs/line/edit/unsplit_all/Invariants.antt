use Rattle.std.proofs.Common.{◌≡◌}
use Rattle.classify.specs.steps.Edits.{IsUnsplitAt}
use Rattle.classify.proofs.laws.line.CutLaws.{IsEndBelow}
use Rattle.classify.proofs.line.edit.unsplit_all.Given as goal

abbrev pub invariant-loop-interval : goal.invariant-loop-interval
invariant-loop-interval l = record {
  unsplit : IsUnsplitAt (IsEndBelow l.interval-items l.interval-index) l.spans.top l.fn.line.pieces l.line.pieces;
  room : l.line.room ≡ l.fn.line.room;
}
