use Rattle.std.proofs.Common.{ℕ, ◌<◌, get_or}
use Rattle.classify.specs.steps.Fields.{HasRoomAfter}
use Rattle.classify.specs.steps.Kept.{PiecesAndRoom}
use Rattle.classify.proofs.classifier.lines.have_room_after.Given as goal

abbrev pub invariant-loop-k : goal.invariant-loop-k
invariant-loop-k l = (j : ℕ) (d : PiecesAndRoom) → j < l.k → HasRoomAfter l.bits (get_or l.lines j d)
