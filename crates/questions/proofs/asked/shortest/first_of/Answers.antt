use Rattle.std.proofs.Common.{arith, take}
use Rattle.questions.proofs.laws.AnswerLaws.{first_consistent, next_unanswered}
use Rattle.questions.proofs.asked.shortest.first_of.Goals as goal

pub add-requires : goal.add-requires
add-requires c = rw c.loop-answer.invariant (next_unanswered (take c.args.count c.listed.result.now) c.loop-answer.answer-index _
    (first_consistent c.listed.result.now c.args.count (rw c.listed.ensures c.stand.ensures)) (omega (arith, c.loop-answer-test.true)))
