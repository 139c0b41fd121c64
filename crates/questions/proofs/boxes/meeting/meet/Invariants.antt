use Rattle.questions.proofs.laws.PartLaws.{MetBelow}
use Rattle.questions.proofs.boxes.meeting.meet.Given as goal

abbrev pub invariant-loop-place : goal.invariant-loop-place
invariant-loop-place l = MetBelow l.own l.other l.place
