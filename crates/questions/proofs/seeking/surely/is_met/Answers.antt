use Rattle.std.proofs.Common.{inl, inr, arith, sym, ◌∙◌, ltb-true, true≢false}
use Rattle.std.proofs.lemmas.Bool.{cases_Bool}
use Rattle.std.proofs.lemmas.List.{get_or_default}
use Rattle.rules.specs.rule.Allows.{matches}
use Rattle.questions.specs.steps.Seeking.{IsSeen}
use Rattle.questions.proofs.laws.BeforeLaws.{met_by}
use Rattle.questions.proofs.seeking.surely.is_met.Goals as goal

pub returns-in-Holds : goal.returns-in-Holds
returns-in-Holds c = λ on.
    let s = c.args.approach.now.subject in
    let seen = c.in-Some.seen in
    let own : IsSeen s c.args.by seen = rw c.in-Some.is at c.at.ensures in
    let held = rw c.in-Holds.is at c.known_of.ensures in
    met_by s c.args.approach.now.packet.now c.args.approach.now.answers.now c.args.approach.now.wanted c.args.before.now.far.items c.args.before.now.back.items c.args.by seen.rule.now seen.needs.now own.rule own.needs
    (λ a agrees none. elim (cases_Bool (matches c.args.approach.now.packet.now.values seen.rule.now)) [
      | inl m ↦ absurd (none (m, held a agrees))
      | inr un ↦ c.stays_by.ensures.passed on un
    ])
    (λ a agrees m all. c.stays_by.ensures.matched on m)

pub returns-in-Fails : goal.returns-in-Fails
returns-in-Fails c = λ on.
    let s = c.args.approach.now.subject in
    let seen = c.in-Some.seen in
    let own : IsSeen s c.args.by seen = rw c.in-Some.is at c.at.ensures in
    let fails = rw c.in-Fails.is at c.known_of.ensures in
    met_by s c.args.approach.now.packet.now c.args.approach.now.answers.now c.args.approach.now.wanted c.args.before.now.far.items c.args.before.now.back.items c.args.by seen.rule.now seen.needs.now own.rule own.needs
    (λ a agrees none.
    let lt = ltb-true c.args.by.number c.index.result.now on in
    let here = get_or_default c.args.before.now.far.items c.args.by.chain 0 c.index.result.now (omega (arith, own.is.chain, c.requires.far)) in
    omega (arith, lt, here, c.index.ensures))
    (λ a agrees m all. absurd (true≢false (sym all ∙ fails a agrees)))

pub returns-then-goes_on : goal.returns-then-goes_on
returns-then-goes_on c = λ on.
    let s = c.args.approach.now.subject in
    let seen = c.in-Some.seen in
    let own : IsSeen s c.args.by seen = rw c.in-Some.is at c.at.ensures in
    met_by s c.args.approach.now.packet.now c.args.approach.now.answers.now c.args.approach.now.wanted c.args.before.now.far.items c.args.before.now.back.items c.args.by seen.rule.now seen.needs.now own.rule own.needs
    (λ a agrees none.
    let here = get_or_default c.args.before.now.far.items c.args.by.chain 0 c.index.result.now (omega (arith, own.is.chain, c.requires.far)) in
    omega (arith, c.if-goes_on.true, here, c.index.ensures))
    (λ a agrees m all. c.stays_by-then-goes_on.ensures.matched on m)
