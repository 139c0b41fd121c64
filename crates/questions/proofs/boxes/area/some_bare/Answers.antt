use Rattle.std.proofs.Common.{arith}
use Rattle.questions.specs.steps.Sides.{HasOne}
use Rattle.questions.proofs.laws.TrailLaws.{items_next}
use Rattle.questions.proofs.boxes.area.some_bare.Goals as goal

pub loop-set-preserved : goal.loop-set-preserved
loop-set-preserved c = items_next HasOne c.args.sets.now c.loop-set.set-index c.set-item.result (omega arith) c.set-item.is c.loop-set.invariant (c.is_bare.ensures.some c.if-is_bare.false)
