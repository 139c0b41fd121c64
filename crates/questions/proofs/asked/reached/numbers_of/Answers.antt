use Rattle.std.proofs.Common.{arith}
use Rattle.questions.proofs.laws.ReachLaws.{numbers_next}
use Rattle.questions.proofs.asked.reached.numbers_of.Goals as goal

pub loop-leaf-preserved : goal.loop-leaf-preserved
loop-leaf-preserved c =
    let n = numbers_next c.args.field c.args.verdict c.args.by c.args.exact.now c.loop-leaf.leaf-index c.leaf-item.result c.loop-leaf.numbers c.in_ok-numbers.numbers (omega arith) c.leaf-item.is c.in_ok-numbers.ensures c.loop-leaf.invariant.all c.loop-leaf.invariant.only in
    record { greatest = c.in_ok-numbers.ensures.greatest; all = n.0; only = n.1 }
