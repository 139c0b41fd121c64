use Rattle.std.proofs.Common.{ℕ, ◌<◌, get_or}
use Rattle.questions.specs.declared.walking.task.Leaf.{Leaf}
use Rattle.questions.specs.steps.Tried.{IsGone}
use Rattle.questions.proofs.seeking.walked.came_among.Given as goal

abbrev pub invariant-loop-leaf : goal.invariant-loop-leaf
invariant-loop-leaf l = (k : ℕ) (d : Leaf) → k < l.leaf-index → IsGone l.needs l.wanted l.packet (get_or l.found k d)
