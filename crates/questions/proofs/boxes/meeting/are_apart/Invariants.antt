use Rattle.questions.specs.boxes.Boxes.{HasNumbers}
use Rattle.questions.specs.boxes.Cut.{AreWholeBut}
use Rattle.questions.proofs.laws.PartLaws.{MetBelow}
use Rattle.questions.proofs.boxes.meeting.are_apart.Given as goal

abbrev pub invariant-loop-place : goal.invariant-loop-place
invariant-loop-place l = HasNumbers l.own → AreWholeBut l.fields l.other → MetBelow l.own l.other l.place
