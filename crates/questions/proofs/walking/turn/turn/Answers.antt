use Rattle.std.proofs.Common.{[], ◌∷◌, ◌++◌, refl, ◌∙◌, ap, Some, None, List, subst}
use Rattle.std.proofs.lemmas.Result.{on_ok_weaker}
use Rattle.rules.specs.declared.rule.target.Target.TheVariants as target
use Rattle.questions.specs.Scopes.{entries_by}
use Rattle.questions.specs.steps.Waiting.{rest_of, rests_of}
use Rattle.questions.proofs.laws.BranchLaws.{not_staying}
use Rattle.questions.proofs.laws.WaitLaws.{pushed_below, turned}
use Rattle.questions.specs.steps.Taken.{AddsTasks, IsEntered, IsTurned}
use Rattle.table.specs.walk.Walk.{whole}
use Rattle.questions.specs.declared.walking.task.Pending.{Pending}
use Rattle.questions.proofs.laws.PartedLaws.{adds_none, entered_turned, put_turned, one_part}
use Rattle.questions.proofs.walking.turn.turn.Goals as goal

pub returns-in-None-clause-moves : goal.returns-in-None-clause-moves
returns-in-None-clause-moves c =
    on_ok_weaker c.go_on.result (λ h t known policy names there all met. turned t known policy c.args.task.scope c.args.front.now c.go_on.new.front c.args.target (None) (rest_of t.chains c.args.behind) (rests_of t.chains c.args.task.rests.items) (entries_by known t.chains c.args.task.trail.items)
    c.in-None.is (h t known policy there all)) c.go_on.ensures.moves

pub returns-in-Some-Log-clause-moves : goal.returns-in-Some-Log-clause-moves
returns-in-Some-Log-clause-moves c =
    on_ok_weaker c.go_on-in-Some-Log.result (λ h t known policy names there all met. turned t known policy c.args.task.scope c.args.front.now c.go_on-in-Some-Log.new.front c.args.target (Some target.Log) (rest_of t.chains c.args.behind) (rests_of t.chains c.args.task.rests.items) (entries_by known t.chains c.args.task.trail.items)
    (c.in-Some-Log.is ∙ ap Some c.in-Some-Log.field-0-is) (h t known policy there all)) c.go_on-in-Some-Log.ensures.moves

pub returns-in-Some-Accept-clause-moves : goal.returns-in-Some-Accept-clause-moves
returns-in-Some-Accept-clause-moves c =
    let is = c.in-Some-Accept.is ∙ ap Some c.in-Some-Accept.field-0-is in
    on_ok_weaker c.add_leaf.result (λ h t known policy names there all met. turned t known policy c.args.task.scope c.args.front.now c.add_leaf.new.self c.args.target (Some target.Accept) (rest_of t.chains c.args.behind) (rests_of t.chains c.args.task.rests.items) (entries_by known t.chains c.args.task.trail.items)
    is (h t known policy (λ rule agrees. not_staying c.args.target (Some target.Accept) is (λ x. x) (met agrees)))) c.add_leaf.ensures.moves

pub returns-in-Some-Drop-clause-moves : goal.returns-in-Some-Drop-clause-moves
returns-in-Some-Drop-clause-moves c =
    let is = c.in-Some-Drop.is ∙ ap Some c.in-Some-Drop.field-0-is in
    on_ok_weaker c.add_leaf-in-Some-Drop.result (λ h t known policy names there all met. turned t known policy c.args.task.scope c.args.front.now c.add_leaf-in-Some-Drop.new.self c.args.target (Some target.Drop) (rest_of t.chains c.args.behind) (rests_of t.chains c.args.task.rests.items) (entries_by known t.chains c.args.task.trail.items)
    is (h t known policy (λ rule agrees. not_staying c.args.target (Some target.Drop) is (λ x. x) (met agrees)))) c.add_leaf-in-Some-Drop.ensures.moves

pub returns-in-Some-Reject-clause-moves : goal.returns-in-Some-Reject-clause-moves
returns-in-Some-Reject-clause-moves c =
    let is = c.in-Some-Reject.is ∙ ap Some c.in-Some-Reject.field-0-is in
    on_ok_weaker c.add_leaf-in-Some-Reject.result (λ h t known policy names there all met. turned t known policy c.args.task.scope c.args.front.now c.add_leaf-in-Some-Reject.new.self c.args.target (Some (target.Reject c.in-Some-Reject.kind)) (rest_of t.chains c.args.behind) (rests_of t.chains c.args.task.rests.items) (entries_by known t.chains c.args.task.trail.items)
    is (h t known policy (λ rule agrees. not_staying c.args.target (Some (target.Reject c.in-Some-Reject.kind)) is (λ x. x) (met agrees)))) c.add_leaf-in-Some-Reject.ensures.moves

pub returns-in-Some-Return-clause-moves : goal.returns-in-Some-Return-clause-moves
returns-in-Some-Return-clause-moves c =
    on_ok_weaker c.add_task.result (λ h t known policy names there all met. turned t known policy c.args.task.scope c.args.front.now c.add_task.new.self c.args.target (Some target.Return) (rest_of t.chains c.args.behind) (rests_of t.chains c.args.task.rests.items) (entries_by known t.chains c.args.task.trail.items)
    (c.in-Some-Return.is ∙ ap Some c.in-Some-Return.field-0-is) (h t known policy all)) c.add_task.ensures.moves

pub returns-in_ok-push-in-Some-Jump-clause-moves : goal.returns-in_ok-push-in-Some-Jump-clause-moves
returns-in_ok-push-in-Some-Jump-clause-moves c =
    on_ok_weaker c.enter.result (λ h t known policy names there all met. turned t known policy c.args.task.scope c.args.front.now c.enter.new.front c.args.target (Some (target.Jump c.in-Some-Jump.name)) (rest_of t.chains c.args.behind) (rests_of t.chains c.args.task.rests.items) (entries_by known t.chains c.args.task.trail.items)
    (c.in-Some-Jump.is ∙ ap Some c.in-Some-Jump.field-0-is) (pushed_below t known policy c.args.task.scope c.args.front.now c.enter.new.front (whole c.in-Some-Jump.name) c.args.task.rests.items c.push.new.self.items c.args.behind (entries_by known t.chains c.args.task.trail.items)
    c.in_ok-push-in-Some-Jump.ensures.items there all (h t known policy names))) c.enter.ensures.moves

pub returns-in-Some-Goto-clause-moves : goal.returns-in-Some-Goto-clause-moves
returns-in-Some-Goto-clause-moves c =
    on_ok_weaker c.enter-in-Some-Goto.result (λ h t known policy names there all met. turned t known policy c.args.task.scope c.args.front.now c.enter-in-Some-Goto.new.front c.args.target (Some (target.Goto c.in-Some-Goto.name)) (rest_of t.chains c.args.behind) (rests_of t.chains c.args.task.rests.items) (entries_by known t.chains c.args.task.trail.items)
    (c.in-Some-Goto.is ∙ ap Some c.in-Some-Goto.field-0-is) (h t known policy names all)) c.enter-in-Some-Goto.ensures.moves

pub returns-in-None-clause-on : goal.returns-in-None-clause-on
returns-in-None-clause-on c =
    let task = c.args.task in
    on_ok_weaker c.go_on.result (λ h. put_turned c.args.table.now.table.chains None task.rests.items c.args.behind task.trail.items c.args.front.now c.go_on.new.front c.args.target c.in-None.is task.scope _ refl h) c.go_on.ensures.on

pub returns-in-Some-Log-clause-on : goal.returns-in-Some-Log-clause-on
returns-in-Some-Log-clause-on c =
    let task = c.args.task in
    on_ok_weaker c.go_on-in-Some-Log.result (λ h. put_turned c.args.table.now.table.chains (Some target.Log) task.rests.items c.args.behind task.trail.items c.args.front.now c.go_on-in-Some-Log.new.front c.args.target (c.in-Some-Log.is ∙ ap Some c.in-Some-Log.field-0-is) task.scope _ refl h) c.go_on-in-Some-Log.ensures.on

pub returns-in-Some-Accept-clause-on : goal.returns-in-Some-Accept-clause-on
returns-in-Some-Accept-clause-on c = on_ok_weaker c.add_leaf.result (λ h. adds_none (IsTurned c.args.table.now.table.chains c.args.target c.args.task.rests.items c.args.behind c.args.task.trail.items) c.args.front.now c.add_leaf.new.self h) c.add_leaf.ensures.on

pub returns-in-Some-Drop-clause-on : goal.returns-in-Some-Drop-clause-on
returns-in-Some-Drop-clause-on c = on_ok_weaker c.add_leaf-in-Some-Drop.result (λ h. adds_none (IsTurned c.args.table.now.table.chains c.args.target c.args.task.rests.items c.args.behind c.args.task.trail.items) c.args.front.now c.add_leaf-in-Some-Drop.new.self h) c.add_leaf-in-Some-Drop.ensures.on

pub returns-in-Some-Reject-clause-on : goal.returns-in-Some-Reject-clause-on
returns-in-Some-Reject-clause-on c = on_ok_weaker c.add_leaf-in-Some-Reject.result (λ h. adds_none (IsTurned c.args.table.now.table.chains c.args.target c.args.task.rests.items c.args.behind c.args.task.trail.items) c.args.front.now c.add_leaf-in-Some-Reject.new.self h) c.add_leaf-in-Some-Reject.ensures.on

pub returns-in-Some-Return-clause-on : goal.returns-in-Some-Return-clause-on
returns-in-Some-Return-clause-on c =
    let task = c.args.task in
    on_ok_weaker c.add_task.result (λ h. put_turned c.args.table.now.table.chains (Some target.Return) task.rests.items c.args.behind task.trail.items c.args.front.now c.add_task.new.self c.args.target (c.in-Some-Return.is ∙ ap Some c.in-Some-Return.field-0-is) task.scope _ refl h) c.add_task.ensures.on

pub returns-in_ok-push-in-Some-Jump-clause-on : goal.returns-in_ok-push-in-Some-Jump-clause-on
returns-in_ok-push-in-Some-Jump-clause-on c =
    let task = c.args.task in
    let name = c.in-Some-Jump.name in
    let P : List Pending → Type 0 = λ waiting. AddsTasks (IsEntered c.args.table.now.table.chains name waiting task.trail.items) c.args.front.now c.enter.new.front in
    on_ok_weaker c.enter.result (λ h. entered_turned c.args.table.now.table.chains (Some (target.Jump name)) task.rests.items c.args.behind task.trail.items c.args.front.now c.enter.new.front c.args.target (c.in-Some-Jump.is ∙ ap Some c.in-Some-Jump.field-0-is) name (task.rests.items ++ c.args.behind ∷ []) (λ rests is. is) (subst P c.in_ok-push-in-Some-Jump.ensures.items h)) c.enter.ensures.on

pub returns-in-Some-Goto-clause-on : goal.returns-in-Some-Goto-clause-on
returns-in-Some-Goto-clause-on c =
    let task = c.args.task in
    let name = c.in-Some-Goto.name in
    on_ok_weaker c.enter-in-Some-Goto.result (λ h. entered_turned c.args.table.now.table.chains (Some (target.Goto name)) task.rests.items c.args.behind task.trail.items c.args.front.now c.enter-in-Some-Goto.new.front c.args.target (c.in-Some-Goto.is ∙ ap Some c.in-Some-Goto.field-0-is) name task.rests.items (λ rests is. is) h) c.enter-in-Some-Goto.ensures.on

pub returns-in-None-clause-parts : goal.returns-in-None-clause-parts
returns-in-None-clause-parts c = on_ok_weaker c.go_on.result (one_part c.args.task.scope c.args.front.now c.go_on.new.front) c.go_on.ensures.one

pub returns-in-Some-Log-clause-parts : goal.returns-in-Some-Log-clause-parts
returns-in-Some-Log-clause-parts c = on_ok_weaker c.go_on-in-Some-Log.result (one_part c.args.task.scope c.args.front.now c.go_on-in-Some-Log.new.front) c.go_on-in-Some-Log.ensures.one

pub returns-in-Some-Return-clause-parts : goal.returns-in-Some-Return-clause-parts
returns-in-Some-Return-clause-parts c = on_ok_weaker c.add_task.result (one_part c.args.task.scope c.args.front.now c.add_task.new.self) c.add_task.ensures.one

pub returns-in_ok-push-in-Some-Jump-clause-parts : goal.returns-in_ok-push-in-Some-Jump-clause-parts
returns-in_ok-push-in-Some-Jump-clause-parts c = on_ok_weaker c.enter.result (one_part c.args.task.scope c.args.front.now c.enter.new.front) c.enter.ensures.one

pub returns-in-Some-Goto-clause-parts : goal.returns-in-Some-Goto-clause-parts
returns-in-Some-Goto-clause-parts c = on_ok_weaker c.enter-in-Some-Goto.result (one_part c.args.task.scope c.args.front.now c.enter-in-Some-Goto.new.front) c.enter-in-Some-Goto.ensures.one
