use Rattle.rules.specs.Boxed.{IsBoxOf}
use Rattle.questions.proofs.laws.SeekLaws.{met_with_some}
use Rattle.questions.proofs.seeking.way.met_with.Goals as goal

pub returns-then-is_empty-clause-all : goal.returns-then-is_empty-clause-all
returns-then-is_empty-clause-all c = λ a p at here m held.
    let seen = c.args.seen.now in
    let boxed : IsBoxOf seen.rule.now c.spans.result.now = rw (c.spans.ensures.value, c.boxed.ensures) seen.boxed in
    let more = rw (c.in-Some.is, c.in_ok-copy.ensures) at c.in_ok-answers.ensures in
    c.is_empty.ensures.none c.if-is_empty.true p.values
    (met_with_some seen.rule.now c.spans.result.now seen.needs.now c.args.scope.now c.in_ok-area.area c.in-Some.answers boxed c.in_ok-area.ensures more a p at here m held).0

pub returns-clause-all : goal.returns-clause-all
returns-clause-all c = λ a p at here m held.
    let seen = c.args.seen.now in
    let boxed : IsBoxOf seen.rule.now c.spans.result.now = rw (c.spans.ensures.value, c.boxed.ensures) seen.boxed in
    let more = rw (c.in-Some.is, c.in_ok-copy.ensures) at c.in_ok-answers.ensures in
    met_with_some seen.rule.now c.spans.result.now seen.needs.now c.args.scope.now c.in_ok-area.area c.in-Some.answers boxed c.in_ok-area.ensures more a p at here m held

pub returns-clause-only : goal.returns-clause-only
returns-clause-only c =
    let seen = c.args.seen.now in
    let boxed : IsBoxOf seen.rule.now c.spans.result.now = rw (c.spans.ensures.value, c.boxed.ensures) seen.boxed in
    record { box = c.spans.result.now; own = boxed; area = c.in_ok-area.ensures; answers = rw (c.in-Some.is, c.in_ok-copy.ensures) at c.in_ok-answers.ensures }
