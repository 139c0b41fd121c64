use Rattle.questions.proofs.laws.TakerLaws.{no_packet, packet_of}
use Rattle.questions.proofs.asked.reason.reason_by.Goals as goal

pub returns-in-Some : goal.returns-in-Some
returns-in-Some c = λ can led is. (packet_of c.args.subject.now c.args.step c.args.takers is (c.are_none.ensures.some c.if-are_none.false), rw c.in-Some.is at c.in_ok-ways.ensures)

pub returns-in-None : goal.returns-in-None
returns-in-None c = λ can led is. (packet_of c.args.subject.now c.args.step c.args.takers is (c.are_none.ensures.some c.if-are_none.false), rw c.in-None.is at c.in_ok-ways.ensures, is)

pub returns-then-are_none : goal.returns-then-are_none
returns-then-are_none c = λ can led is. (let (rules, policies) = c.are_none.ensures.none c.if-are_none.true in (can, led, no_packet c.args.subject.now c.args.step c.args.takers is rules policies))
