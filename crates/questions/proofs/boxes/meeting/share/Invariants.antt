use Rattle.std.proofs.Common.{◌+◌, length, []}
use Rattle.fields.proofs.laws.numbers.MeetLaws.{Meeting}
use Rattle.questions.proofs.laws.PartLaws.{AreOf}
use Rattle.questions.proofs.boxes.meeting.share.Given as goal

abbrev pub invariant-loop-a : goal.invariant-loop-a
invariant-loop-a l = record {
  meeting : Meeting l.own.top l.own.intervals l.other.intervals [] l.left l.right;
  in_own : AreOf l.left l.own.intervals;
  in_other : AreOf l.right l.other.intervals;
}

abbrev pub decreases-loop-a : goal.decreases-loop-a
decreases-loop-a l = length l.left + length l.right
