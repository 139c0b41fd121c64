use Rattle.questions.proofs.laws.ReachLaws.{listed_now}
use Rattle.questions.proofs.asked.reached.add_end.Goals as goal

pub returns : goal.returns
returns c =
    rw c.in_ok-push.ensures.items (listed_now c.args.field c.args.exact.now c.args.leaf.now c.args.reached.now.items c.decider-by.result c.in_ok-numbers.numbers c.decider-by.ensures c.in_ok-numbers.ensures
    (rw c.as_slice.ensures.value at (c.is_listed.ensures.apart c.if-is_listed.false)))
