use Rattle.std.proofs.Common.{take}
use Rattle.questions.specs.steps.Ending.{AreShown}
use Rattle.questions.proofs.asked.ends.ends_of.Given as goal

abbrev pub invariant-loop-leaf : goal.invariant-loop-leaf
invariant-loop-leaf l = AreShown (take l.leaf-index l.leaves) l.ends.items
