use Rattle.std.proofs.Common.{None, arith, sym, ◌∙◌}
use Rattle.std.proofs.lemmas.List.{get_or_default, get_or_past}
use Rattle.questions.specs.steps.Answered.{AreIndexed}
use Rattle.questions.proofs.laws.NecessaryLaws.{to_answered, to_unanswered}
use Rattle.questions.proofs.foreign.answers.Answers.to.Goals as goal

pub returns-clause-answered : goal.returns-clause-answered
returns-clause-answered c =
    let index = c.self.inside.index.items in
    let are : AreIndexed index c.args.self.now = rw (← c.self.view_is) c.self.invariant in
    to_answered index c.args.self.now c.args.condition c.index.result.now are (get_or_default index c.args.condition None c.index.result.now (omega (arith, c.if-condition-len.false, c.len.ensures)) ∙ sym c.index.ensures)

pub returns-clause-unanswered : goal.returns-clause-unanswered
returns-clause-unanswered c =
    let index = c.self.inside.index.items in
    let are : AreIndexed index c.args.self.now = rw (← c.self.view_is) c.self.invariant in
    to_unanswered index c.args.self.now c.args.condition c.index.result.now are (get_or_default index c.args.condition None c.index.result.now (omega (arith, c.if-condition-len.false, c.len.ensures)) ∙ sym c.index.ensures)

pub returns-then-condition-len-clause-unanswered : goal.returns-then-condition-len-clause-unanswered
returns-then-condition-len-clause-unanswered c =
    let index = c.self.inside.index.items in
    let are : AreIndexed index c.args.self.now = rw (← c.self.view_is) c.self.invariant in
    to_unanswered index c.args.self.now c.args.condition None are (get_or_past index c.args.condition None (omega (arith, c.if-condition-len.true, c.len.ensures)))
