use Rattle.std.proofs.Common.{ℕ, ◌<◌, get_or}
use Rattle.questions.specs.boxes.Boxes.{IsIn}
use Rattle.questions.specs.declared.walking.task.Leaf.{Leaf}
use Rattle.questions.specs.steps.Takers.{IsSurelyOn, needs_of}
use Rattle.questions.proofs.asked.necessary.all_have.Given as goal

abbrev pub invariant-loop-leaf : goal.invariant-loop-leaf
invariant-loop-leaf l = (k : ℕ) (d : Leaf) → k < l.leaf-index → IsIn (get_or l.found k d).area l.fn.packet → IsSurelyOn (needs_of l.subject.needs.now l.fn.step) l.fn.step (get_or l.found k d)
