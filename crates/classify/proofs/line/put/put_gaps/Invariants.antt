use Rattle.std.proofs.Common.{◌≡◌, take, map}
use Rattle.classify.specs.steps.Edits.{with_bit}
use Rattle.classify.proofs.laws.line.PutLaws.{is_open}
use Rattle.classify.proofs.line.put.put_gaps.Given as goal

abbrev pub invariant-loop-k : goal.invariant-loop-k
invariant-loop-k l = record {
  answers : l.line.pieces ≡ map (with_bit l.at (is_open (take l.k l.intervals))) l.fn.line.pieces;
  room : l.line.room ≡ l.fn.line.room;
}
