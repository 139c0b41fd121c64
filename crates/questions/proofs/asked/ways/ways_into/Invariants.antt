use Rattle.questions.proofs.laws.BoxesLaws.{AreAll, AreBefore}
use Rattle.questions.proofs.laws.WayLaws.{IsWayIn}
use Rattle.questions.proofs.asked.ways.ways_into.Given as goal

abbrev pub invariant-loop-place : goal.invariant-loop-place
invariant-loop-place l = record {
  before : AreBefore (IsWayIn l.subject.table.table l.marks.items) l.place l.ways.items;
  only : AreAll (IsWayIn l.subject.table.table l.marks.items) l.ways.items;
}
