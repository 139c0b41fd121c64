use Rattle.std.proofs.Common.{ℕ, ◌+◌, ◌∙◌, Option, sym, subst}
use Rattle.questions.proofs.laws.AnswerLaws.{IsSoFar, all_are_met, is_met, met_so_far, one_is_open, open_so_far}
use Rattle.questions.proofs.foreign.need.known_of.Goals as goal
use Rattle.questions.proofs.foreign.need.known_of.Goals.{in-None, in-Some+else-holds-need}

pub loop-need-preserved : goal.loop-need-preserved
loop-need-preserved c =
    let Next : Option ℕ → Type 0 = IsSoFar c.args.needs.now c.args.answers.now (c.loop-need.need-index + 1) in
    elim c.match-to.branch [
      | in-None w ↦ subst Next (sym (w.found-is ∙ w.or-found.ensures)) (open_so_far c.args.needs.now c.args.answers.now c.loop-need.need-index _ c.loop-need-test.true c.loop-need.found c.loop-need.invariant w.in-None.ensures.unanswered)
      | in-Some+else-holds-need w ↦ subst Next (sym w.found-is)
          (met_so_far c.args.needs.now c.args.answers.now c.loop-need.need-index _ c.loop-need-test.true c.loop-need.found c.loop-need.invariant (is_met c.args.answers.now _ w.in-Some.holds w.in-Some.ensures.answered w.if-holds-need.false))
    ]

pub returns-in-None-found : goal.returns-in-None-found
returns-in-None-found c =
    let Found : Option ℕ → Type 0 = IsSoFar c.args.needs.now c.args.answers.now c.loop-need.need-index in
    all_are_met c.args.needs.now c.args.answers.now c.loop-need.need-index c.loop-need-test.false (subst Found c.in-None-found.is c.loop-need.invariant)

pub returns-else-are_contrary : goal.returns-else-are_contrary
returns-else-are_contrary c =
    let Found : Option ℕ → Type 0 = IsSoFar c.args.needs.now c.args.answers.now c.loop-need.need-index in
    one_is_open c.args.needs.now c.args.answers.now c.loop-need.need-index c.in-Some-found.condition c.loop-need-test.false (subst Found c.in-Some-found.is c.loop-need.invariant)

pub returns-then-are_contrary : goal.returns-then-are_contrary
returns-then-are_contrary c = λ a agrees. c.are_contrary.ensures c.if-are_contrary.true a
