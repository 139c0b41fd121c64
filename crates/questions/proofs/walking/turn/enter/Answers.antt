use Rattle.std.proofs.Common.{sym, ◌∙◌}
use Rattle.std.proofs.lemmas.Result.{on_ok_weaker}
use Rattle.questions.specs.Scopes.{entries_by}
use Rattle.questions.specs.steps.Waiting.{rests_of}
use Rattle.questions.proofs.laws.ResolvedLaws.{same_position}
use Rattle.questions.proofs.laws.WaitLaws.{entered, not_entered}
use Rattle.questions.proofs.laws.PartedLaws.{put_below, put_entered}
use Rattle.questions.proofs.walking.turn.enter.Goals as goal

pub returns-in-Some-clause-moves : goal.returns-in-Some-clause-moves
returns-in-Some-clause-moves c =
    on_ok_weaker c.go_on.result (λ h t known policy names all. entered t known policy c.args.task.scope c.args.front.now c.go_on.new.front c.args.name.now c.bytes.result.now c.in-Some.chain (rests_of t.chains c.args.task.rests.items) (entries_by known t.chains c.args.task.trail.items)
    (c.in-Some.ensures ∙ sym (same_position c.bytes.result.now t.chains c.args.table.now.table.chains names)) c.bytes.ensures.value (λ there. h t known policy there all)) c.go_on.ensures.moves

pub returns-in-None-clause-moves : goal.returns-in-None-clause-moves
returns-in-None-clause-moves c =
    on_ok_weaker c.add_task.result (λ h t known policy names all. not_entered t known policy c.args.task.scope c.args.front.now c.add_task.new.self c.args.name.now c.bytes.result.now (rests_of t.chains c.args.task.rests.items) (entries_by known t.chains c.args.task.trail.items)
    (c.in-None.ensures ∙ sym (same_position c.bytes.result.now t.chains c.args.table.now.table.chains names)) c.bytes.ensures.value (h t known policy all)) c.add_task.ensures.moves

pub returns-in-Some-clause-on : goal.returns-in-Some-clause-on
returns-in-Some-clause-on c =
    on_ok_weaker c.go_on.result (λ h. put_entered c.args.table.now.table.chains c.args.name.now c.args.task.scope c.args.task.rests.items c.in-Some.chain c.args.task.trail.items c.args.front.now c.go_on.new.front
    (rw c.bytes.ensures.value at (sym c.in-Some.ensures)) h) c.go_on.ensures.on

pub returns-in-None-clause-on : goal.returns-in-None-clause-on
returns-in-None-clause-on c =
    on_ok_weaker c.add_task.result (λ h. put_below c.args.table.now.table.chains c.args.name.now c.args.task.scope c.args.task.rests.items c.args.task.trail.items c.args.front.now c.add_task.new.self h) c.add_task.ensures.on
