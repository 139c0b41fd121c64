use Rattle.std.proofs.Common.{◌≡◌}
use Rattle.classify.specs.steps.Pieces.{CutsStart}
use Rattle.classify.proofs.laws.line.LoopLaws.{Split}
use Rattle.classify.proofs.line.edit.split_intervals.Given as goal

abbrev pub invariant-loop-interval : goal.invariant-loop-interval
invariant-loop-interval l = record {
  cuts : Split l.spans.top l.interval-items l.fn.line.pieces l.line.pieces l.interval-index;
  kept : CutsStart l.spans.top l.spans.intervals l.fn.line.pieces → l.line.pieces ≡ l.fn.line.pieces;
  room : l.line.room ≡ l.fn.line.room;
}
