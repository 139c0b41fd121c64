use Rattle.questions.proofs.laws.TrailLaws.{last_pushed}
use Rattle.std.proofs.lemmas.Result.{on_ok_weaker}
use Rattle.questions.proofs.walking.turn.follow.Goals as goal

pub returns-clause-moves : goal.returns-clause-moves
returns-clause-moves c =
    on_ok_weaker c.turn.result (λ h t known policy names there all met. rw (c.in_ok-push.ensures.items, c.target.ensures) at (h t known policy names there all (rw (c.in_ok-push.ensures.items, last_pushed, c.target.ensures) met))) c.turn.ensures.moves

pub returns-clause-on : goal.returns-clause-on
returns-clause-on c =
    on_ok_weaker c.turn.result (λ h. rw c.target.ensures at (rw c.in_ok-push.ensures.items at h)) c.turn.ensures.on
