use Rattle.std.proofs.Common.{arith}
use Rattle.questions.specs.steps.Seeking.{IsLess}
use Rattle.questions.proofs.laws.TrailLaws.{items_next}
use Rattle.questions.proofs.seeking.less.are_less.Goals as goal

pub loop-part-preserved : goal.loop-part-preserved
loop-part-preserved c =
    items_next (IsLess c.args.whole.now) c.args.parts.now c.loop-part.part-index c.part-item.result (omega arith) c.part-item.is c.loop-part.invariant (c.is_less.ensures c.if-not-is_less.false)
