use Rattle.std.proofs.Common.{take}
use Rattle.questions.specs.steps.Saying.{IsSaidOf}
use Rattle.questions.proofs.boxes.said.said_with.Given as goal

-- of the packets in the box the words so far hold
abbrev pub invariant-loop-word : goal.invariant-loop-word
invariant-loop-word l = IsSaidOf l.fn.transport l.fn.hook (take l.word-index l.words) l.area
