use Rattle.std.proofs.Common.{ap, inl, inr, refl, subst, sym, ◌∙◌, true≢false}
use Rattle.fields.specs.Packet.{PacketView as Packet}
use Rattle.questions.specs.Scopes.{table_of}
use Rattle.questions.specs.steps.Lengths.{IsBounded}
use Rattle.questions.proofs.laws.IdleLaws.{are_ends, ends_asked}
use Rattle.questions.proofs.laws.PacketLaws.{written_at_hooks}
use Rattle.questions.proofs.asked.ends.ends.Goals as goal

pub returns-in-Some-clause-ends : goal.returns-in-Some-clause-ends
returns-in-Some-clause-ends c =
    let p = c.args.written.now in
    let there = sym (c.hook.ensures.value ∙ ap (λ (packet : Packet). packet.hook) c.packet-packet.ensures.value) in
    are_ends c.args.subject.now _ p c.args.answers.now c.in-Some.leaves.items c.in_ok-ends_of-in-Some.field-0.items c.stands.ensures.sound refl (rw c.packet-packet.ensures.value at c.in_ok-needs.ensures.spared)
    (λ a. c.are_short.ensures.short c.if-not-are_short.false a p there) (rw c.in-Some.is at c.in_ok-leaves.ensures.walks) (rw c.as_slice.ensures.value at c.in_ok-ends_of-in-Some.ensures)

pub returns-in-Some-clause-asked : goal.returns-in-Some-clause-asked
returns-in-Some-clause-asked c =
    ends_asked c.args.subject.now.needs.now _ c.args.answers.now c.in-Some.leaves.items c.in_ok-ends_of-in-Some.field-0.items (rw c.in-Some.is at c.in_ok-leaves.ensures.asked) c.in_ok-needs.ensures.asked (rw c.as_slice.ensures.value at c.in_ok-ends_of-in-Some.ensures)

pub returns-then-not-are_short-clause-ends : goal.returns-then-not-are_short-clause-ends
returns-then-not-are_short-clause-ends c =
    let there = c.hook.ensures.value ∙ ap (λ (packet : Packet). packet.hook) c.packet-packet.ensures.value in
    inl (λ bounded. absurd (true≢false (sym (c.are_short.ensures.bounded.1 (subst (IsBounded (table_of c.args.subject.now)) (sym there) bounded)) ∙ c.if-not-are_short.true)))

pub spared-requires : goal.spared-requires
spared-requires c = let (words, is) = c.packet-packet.ensures.written in rw c.packet-packet.ensures.value (written_at_hooks words c.args.written.now is)

pub returns-clause-ends : goal.returns-clause-ends
returns-clause-ends c =
    inr (_, rw c.packet-packet.ensures.value at c.in_ok-needs.ensures.spared, c.in_ok-needs.ensures.asked, rw c.in-None.is at c.in_ok-leaves.ensures.walks)
