use Rattle.std.proofs.Common.{◌≡◌, ℕ, ◌<◌, get_or}
use Rattle.questions.specs.declared.walking.task.Leaf.{Leaf}
use Rattle.questions.proofs.asked.other.all_give.Given as goal

abbrev pub invariant-loop-leaf : goal.invariant-loop-leaf
invariant-loop-leaf l = (k : ℕ) (d : Leaf) → k < l.leaf-index → (get_or l.found k d).verdict ≡ l.fn.verdict
