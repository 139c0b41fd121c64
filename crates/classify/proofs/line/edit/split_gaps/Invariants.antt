use Rattle.fields.specs.declared.numbers.spans.Interval.{Interval}
use Rattle.std.proofs.Common.{◌≡◌}
use Rattle.classify.specs.steps.Pieces.{CutsStart}
use Rattle.classify.proofs.laws.line.CutLaws.{GapSplit}
use Rattle.classify.proofs.line.edit.split_gaps.Given as goal

abbrev pub no_span : Interval
no_span = record { first = 0; last = 0 }

abbrev pub invariant-loop-k : goal.invariant-loop-k
invariant-loop-k l = record {
  cuts : GapSplit l.spans.top l.intervals no_span l.fn.line.pieces l.line.pieces l.k;
  kept : CutsStart l.spans.top l.spans.intervals l.fn.line.pieces → l.line.pieces ≡ l.fn.line.pieces;
  room : l.line.room ≡ l.fn.line.room;
}
