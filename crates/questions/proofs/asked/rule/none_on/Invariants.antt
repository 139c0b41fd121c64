use Rattle.std.proofs.Common.{ℕ, ◌<◌, get_or, Contains}
use Rattle.questions.specs.declared.walking.task.Leaf.{Leaf}
use Rattle.questions.proofs.asked.rule.none_on.Given as goal

abbrev pub invariant-loop-leaf : goal.invariant-loop-leaf
invariant-loop-leaf l = (k : ℕ) (d : Leaf) → k < l.leaf-index → Contains (get_or l.found k d).trail.items l.fn.step → ⊥
