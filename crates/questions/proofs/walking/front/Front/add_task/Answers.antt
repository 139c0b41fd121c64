use Rattle.std.proofs.Common.{[], ◌∷◌, refl}
use Rattle.questions.proofs.laws.WaitLaws.{task_moves}
use Rattle.questions.specs.declared.walking.task.Task.{Task}
use Rattle.questions.specs.steps.Taken.{IsPut}
use Rattle.std.proofs.lemmas.List.Elements.{All-cons, All-nil, All-push}
use Rattle.questions.specs.Foreign.{AreAsked}
use Rattle.questions.proofs.walking.front.Front.add_task.Goals as goal

pub returns-clause-moves : goal.returns-clause-moves
returns-clause-moves c = λ t known policy there. task_moves t known policy c.args.self.now _ c.args.task c.in_ok-push.ensures.items refl there

pub returns-clause-on : goal.returns-clause-on
returns-clause-on c =
    let task = c.args.task in
    let Put : Task → Type 0 = IsPut task.scope task.rests.items task.trail.items in
    (task ∷ [], c.in_ok-push.ensures.items, All-cons Put task [] (record { scope = refl; there = record { rests = refl; trail = refl } }) (All-nil Put))

pub returns-clause-asked : goal.returns-clause-asked
returns-clause-asked c = λ needs given own all.
    let Tasks : Task → Type 0 = λ task. AreAsked needs given task.scope.answers in
    record { tasks = rw c.in_ok-push.ensures.items (All-push Tasks c.args.self.now.tasks.items c.args.task all.tasks own); leaves = all.leaves }

pub returns-clause-one : goal.returns-clause-one
returns-clause-one c = record { task = c.args.task; scope = refl; more = c.in_ok-push.ensures.items; same = refl }
