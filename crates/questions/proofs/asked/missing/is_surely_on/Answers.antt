use Rattle.std.proofs.Common.{sym, ◌∙◌, true≢false}
use Rattle.questions.proofs.laws.AnswerLaws.{some_assignment_gives}
use Rattle.questions.proofs.laws.NecessaryLaws.{open_missed}
use Rattle.questions.proofs.asked.missing.is_surely_on.Goals as goal

pub returns-in-Holds-clause-no : goal.returns-in-Holds-clause-no
returns-in-Holds-clause-no c = λ off.
    let (a, agrees) = some_assignment_gives c.args.leaf.now.answers c.stand.ensures in
    (a, agrees, λ on. absurd (true≢false (sym (c.is_on.ensures.1 (rw c.as_slice.ensures.value on)) ∙ off)))

pub returns-in-Fails-clause-no : goal.returns-in-Fails-clause-no
returns-in-Fails-clause-no c = λ off.
    let (a, agrees) = some_assignment_gives c.args.leaf.now.answers c.stand.ensures in
    (a, agrees, λ on. (rw c.in-Fails.is at c.known_of.ensures) a agrees)

pub returns-in-Open-clause-no : goal.returns-in-Open-clause-no
returns-in-Open-clause-no c = λ off.
    let (a, agrees, fails) = open_missed c.args.needs.now c.args.leaf.now.answers c.in-Open.field-0 c.stand.ensures (rw c.in-Open.is at c.known_of.ensures) in
    (a, agrees, λ on. fails)
