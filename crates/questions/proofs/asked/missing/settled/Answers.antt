use Rattle.std.proofs.Common.{refl}
use Rattle.questions.proofs.asked.missing.settled.Goals.{in-Some+then-matches+in_ok-settle, in-Some+else-matches, in_default}
use Rattle.questions.proofs.asked.missing.settled.Goals as goal

pub returns : goal.returns
returns c =
    elim c.match-last.branch [
      | in-Some+then-matches+in_ok-settle w ↦ rw w.task-is (record { area = refl; answers = w.in_ok-settle.ensures; rests = refl; trail = refl })
      | in-Some+else-matches w ↦ rw w.task-is (record { area = refl; answers = λ a agrees. agrees; rests = refl; trail = refl })
      | in_default w ↦ rw w.task-is (record { area = refl; answers = λ a agrees. agrees; rests = refl; trail = refl })
    ]
