use Rattle.std.proofs.lemmas.Result.{on_ok_weaker}
use Rattle.questions.specs.Scopes.{entries_by}
use Rattle.questions.proofs.laws.WaitLaws.{pushed_moves}
use Rattle.questions.proofs.walking.turn.go_on.Goals as goal

pub returns-clause-moves : goal.returns-clause-moves
returns-clause-moves c =
    on_ok_weaker c.add_task.result (λ h t known policy there all. pushed_moves t known policy c.args.task.scope c.args.front.now c.add_task.new.self c.args.task.rests.items c.push.new.self.items c.args.at (entries_by known t.chains c.args.task.trail.items)
    c.in_ok-push.ensures.items there all (h t known policy)) c.add_task.ensures.moves

pub returns-clause-on : goal.returns-clause-on
returns-clause-on c =
    let task = c.args.task in
    on_ok_weaker c.add_task.result (λ h. rw c.in_ok-push.ensures.items at h) c.add_task.ensures.on
