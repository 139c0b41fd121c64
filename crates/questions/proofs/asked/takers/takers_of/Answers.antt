use Rattle.questions.proofs.laws.TakerLaws.{all_found, near_taken}
use Rattle.questions.proofs.asked.takers.takers_of.Goals as goal

pub returns : goal.returns
returns c =
    let (dead, of) = rw c.in-Some.is at c.in_ok-near.ensures in
    (dead, near_taken c.args.subject.now c.args.step c.in-Some.near of (c.are_none.ensures.some c.if-are_none.false))

pub returns-in_default : goal.returns-in_default
returns-in_default c = rw c.in_default.is at c.in_ok-near.ensures

-- no packet may come to the rule's chain
pub returns-then-are_none : goal.returns-then-are_none
returns-then-are_none c =
    let (dead, of) = rw c.in-Some.is at c.in_ok-near.ensures in
    let (rules, policies) = c.are_none.ensures.none c.if-are_none.true in
    all_found c.args.subject.now c.args.step c.args.budget c.in-Some.near of rules policies c.takers_by-then-are_none.result c.takers_by-then-are_none.ensures
