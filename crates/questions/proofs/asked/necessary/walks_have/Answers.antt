use Rattle.std.proofs.Common.{sym, inl, inr}
use Rattle.questions.proofs.laws.NecessaryLaws.{missed_off, surely_enough}
use Rattle.questions.proofs.asked.necessary.walks_have.Goals as goal

pub walks_of-requires-clause-inside : goal.walks_of-requires-clause-inside
walks_of-requires-clause-inside c = c.in_ok-whole.ensures.all c.args.approach.now.packet.now c.requires.can (sym c.hook.ensures.value)

pub returns-clause-yes : goal.returns-clause-yes
returns-clause-yes c = λ all.
    surely_enough c.args.approach.now.subject c.in-Some.found.items c.args.approach.now.packet.now c.args.approach.now.wanted c.args.approach.now.answers.now (rw c.in-Some.is at c.in_ok-walks_of.ensures.walks) (rw c.as_slice.ensures.value at (c.all_have.ensures.yes all))

pub returns-clause-no : goal.returns-clause-no
returns-clause-no c = λ off.
    inl (missed_off c.args.approach.now.subject c.in-Some.found.items c.args.approach.now.packet.now c.args.approach.now.wanted c.args.approach.now.answers.now c.stands.ensures.sound c.requires.step (rw c.in-Some.is at c.in_ok-walks_of.ensures.walks)
    (rw c.as_slice.ensures.value at (c.all_have.ensures.no off)))

pub returns-in-None-clause-no : goal.returns-in-None-clause-no
returns-in-None-clause-no c = λ _. inr (rw c.in-None.is at c.in_ok-walks_of.ensures.walks)
