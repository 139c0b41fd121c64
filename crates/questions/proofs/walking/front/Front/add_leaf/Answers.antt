use Rattle.std.proofs.Common.{refl}
use Rattle.questions.proofs.laws.WaitLaws.{leaf_moves}
use Rattle.std.proofs.lemmas.List.Elements.{All-push}
use Rattle.questions.specs.Foreign.{AreAsked}
use Rattle.questions.specs.declared.walking.task.Leaf.{Leaf}
use Rattle.questions.proofs.laws.PartedLaws.{leaf_part}
use Rattle.questions.proofs.walking.front.Front.add_leaf.Goals as goal

pub returns-clause-moves : goal.returns-clause-moves
returns-clause-moves c = λ t known policy met. leaf_moves t known policy c.args.self.now _ _ refl c.in_ok-push.ensures.items met

pub returns-clause-asked : goal.returns-clause-asked
returns-clause-asked c = λ needs given own all.
    let Leaves : Leaf → Type 0 = λ leaf. AreAsked needs given leaf.answers in
    record { tasks = all.tasks; leaves = rw c.in_ok-push.ensures.items (All-push Leaves c.args.self.now.leaves.items _ all.leaves own) }

pub returns-clause-parts : goal.returns-clause-parts
returns-clause-parts c = leaf_part c.args.task.scope _ c.args.self.now _ refl refl c.in_ok-push.ensures.items
