use Rattle.std.proofs.Common.{◌≡◌, take, map}
use Rattle.fields.specs.numbers.Spans.{has}
use Rattle.classify.specs.steps.Edits.{with_bit}
use Rattle.classify.proofs.line.put.put_few.Given as goal

abbrev pub invariant-loop-interval : goal.invariant-loop-interval
invariant-loop-interval l = record {
  answers : l.line.pieces ≡ map (with_bit l.at (has (take l.interval-index l.interval-items))) l.fn.line.pieces;
  room : l.line.room ≡ l.fn.line.room;
}
