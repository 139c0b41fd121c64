use Rattle.std.proofs.Common.{◌≡◌}
use Rattle.classify.specs.steps.Pieces.{row_bits}
use Rattle.classify.proofs.laws.line.DropLaws.{Dropping}
use Rattle.classify.proofs.line.edit.drop_cuts.Given as goal

abbrev pub invariant-loop-k : goal.invariant-loop-k
invariant-loop-k l = record {
  dropping : Dropping l.at l.fn.line.pieces l.line.pieces l.k;
  long : row_bits l.line.pieces ≡ row_bits l.fn.line.pieces;
  room : l.line.room ≡ l.fn.line.room;
}

abbrev pub decreases-loop-k : goal.decreases-loop-k
decreases-loop-k l = l.k
