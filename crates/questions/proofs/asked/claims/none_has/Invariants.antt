use Rattle.std.proofs.Common.{ℕ, ◌<◌, get_or, Contains}
use Rattle.questions.specs.declared.walking.task.Leaf.{Leaf}
use Rattle.questions.proofs.asked.claims.none_has.Given as goal

abbrev pub invariant-loop-leaf : goal.invariant-loop-leaf
invariant-loop-leaf l = (k : ℕ) (d : Leaf) → k < l.leaf-index → Contains l.forbidden (get_or l.leaves k d).verdict → ⊥
