use Rattle.std.proofs.Common.{ℕ, ◌<◌, get_or}
use Rattle.questions.specs.declared.walking.task.Leaf.{Leaf}
use Rattle.questions.specs.steps.Claimed.{IsPassing}
use Rattle.questions.proofs.asked.claims.against.Given as goal

abbrev pub invariant-loop-leaf : goal.invariant-loop-leaf
invariant-loop-leaf l = (k : ℕ) (d : Leaf) → k < l.leaf-index → IsPassing l.fn.hook l.fn.forbidden (get_or l.leaves k d)
