use Rattle.std.proofs.Common.{[], ◌∷◌, ◌++◌, ◌∙◌, ap, true, false}
use Rattle.std.proofs.lemmas.Result.{on_ok_weaker}
use Rattle.questions.specs.steps.Waiting.{stage_at}
use Rattle.questions.proofs.laws.WaitLaws.{parts_by}
use Rattle.questions.specs.declared.walking.scope.Scope.{Scope}
use Rattle.questions.specs.declared.walking.task.Task.{Task}
use Rattle.questions.specs.steps.Taken.{IsAnswered}
use Rattle.questions.proofs.laws.PartedLaws.{adds_more, put_answered, parted_by}
use Rattle.questions.proofs.laws.AnswerLaws.{asked_more}
use Rattle.questions.proofs.laws.PartLaws.{numbers_kept}
use Rattle.questions.proofs.walking.turn.part.Goals as goal

pub returns-clause-moves : goal.returns-clause-moves
returns-clause-moves c = on_ok_weaker c.go_on-2.result (λ h t known policy there all.
    let task = c.args.task in
    let other = c.in_ok-other.ensures in
    let same = c.in_ok-same.same in
    parts_by t known policy task.scope.area same task.scope.answers c.args.condition (stage_at known t.chains c.args.at task) c.args.front.now c.go_on.new.front c.go_on-2.new.front
    (λ numbers point has. c.in_ok-same.ensures.all numbers point has has) c.in_ok-same.ensures.first
    (rw (c.in_ok-add.ensures, other.scope, other.rests, other.trail) at (c.in_ok-go_on.ensures.moves t known policy there (rw other.rests all)))
    (rw c.in_ok-add-2.ensures at (h t known policy there all))) c.go_on-2.ensures.moves

pub returns-clause-on : goal.returns-clause-on
returns-clause-on c = on_ok_weaker c.go_on-2.result (λ h needs needed.
    let task = c.args.task in
    let other = c.in_ok-other.ensures in
    let rests = task.rests.items ++ c.args.at ∷ [] in
    let Answered : Task → Type 0 = IsAnswered needs task.scope.answers rests task.trail.items in
    let first = rw (other.rests, other.trail) at c.in_ok-go_on.ensures.on in
    adds_more Answered c.args.front.now c.go_on.new.front c.go_on-2.new.front
    (put_answered needs _ task.scope.answers (record { condition = c.args.condition; holds = false }) task.rests.items c.args.at task.trail.items c.args.front.now c.go_on.new.front c.requires needed
    (c.in_ok-add.ensures ∙ ap (λ (s : Scope). s.answers ++ record { condition = c.args.condition; holds = false } ∷ []) other.scope) first)
    (put_answered needs _ task.scope.answers (record { condition = c.args.condition; holds = true }) task.rests.items c.args.at task.trail.items c.go_on.new.front c.go_on-2.new.front c.requires needed
    c.in_ok-add-2.ensures h)) c.go_on-2.ensures.on

pub returns-clause-asked : goal.returns-clause-asked
returns-clause-asked c = on_ok_weaker c.go_on-2.result (λ h needs need given own all.
    let task = c.args.task in
    let other = c.in_ok-other.ensures in
    h needs given (asked_more needs given task.scope.answers _ (record { condition = c.args.condition; holds = true }) c.in_ok-add-2.ensures own need)
    (c.in_ok-go_on.ensures.asked needs given
    (asked_more needs given task.scope.answers _ (record { condition = c.args.condition; holds = false }) (c.in_ok-add.ensures ∙ ap (λ (s : Scope). s.answers ++ record { condition = c.args.condition; holds = false } ∷ []) other.scope) own need) all)) c.go_on-2.ensures.asked

pub returns-clause-parts : goal.returns-clause-parts
returns-clause-parts c = on_ok_weaker c.go_on-2.result (λ h.
    let scope = c.args.task.scope in
    let same = c.in_ok-same.same in
    parted_by scope.area same scope.answers c.args.condition c.args.front.now c.go_on.new.front c.go_on-2.new.front c.in_ok-same.ensures.first (numbers_kept scope.area same (λ numbers point has. c.in_ok-same.ensures.all numbers point has has))
    (rw (c.in_ok-add.ensures, c.in_ok-other.ensures.scope) at c.in_ok-go_on.ensures.one) (rw c.in_ok-add-2.ensures at h)) c.go_on-2.ensures.one
