use Rattle.std.proofs.Common.{take}
use Rattle.questions.specs.steps.Exact.{AreExactIn}
use Rattle.questions.proofs.asked.reach.exact_in_all.Given as goal

-- the leaves so far have the packets of the boxes so far
abbrev pub invariant-loop-area : goal.invariant-loop-area
invariant-loop-area l = AreExactIn l.fn.boxed.table.table l.fn.given.hook (take l.area-index l.fn.given.boxes.items) l.exact.items
