use Rattle.std.proofs.Common.{◌∙◌, get_or, Vec, Global, ap, arith, take_all, sym}
use Rattle.std.proofs.lemmas.Result.{IfOk-weaker}
use Rattle.questions.specs.Foreign.{all_hold}
use Rattle.questions.specs.declared.foreign.need.Need.{Need}
use Rattle.questions.specs.steps.Answered.{AreAlike, AreFree}
use Rattle.questions.proofs.laws.AnswerLaws.{is_met}
use Rattle.questions.proofs.laws.RemainLaws.{free_more, met_more, open_more, unmet_alike, never_both}
use Rattle.questions.proofs.foreign.left.left_of.Goals as goal
use Rattle.questions.proofs.foreign.left.left_of.Goals.{in-None+in_ok-push-in-None, in-Some+else-holds-need}

pub returns-clause-alike : goal.returns-clause-alike
returns-clause-alike c = λ a agrees. c.loop-need.invariant.alike a agrees ∙ ap (all_hold a) (take_all c.loop-need.need-index c.args.needs.now (omega (arith, c.loop-need-test.false)))

pub returns-clause-free : goal.returns-clause-free
returns-clause-free c = c.loop-need.invariant.free

pub loop-need-preserved : goal.loop-need-preserved
loop-need-preserved c =
    let needs = c.args.needs.now in
    let i = c.loop-need.need-index in
    elim c.match-to.branch [
      | in-None+in_ok-push-in-None w ↦ rw (w.left-is, w.in_ok-push-in-None.ensures.items) (record {
        free = free_more c.args.answers.now c.loop-need.left.items (get_or needs i _) c.loop-need.invariant.free w.in-None.ensures.unanswered;
        alike = λ a agrees. open_more a needs c.loop-need.left.items i _ c.loop-need-test.true (c.loop-need.invariant.alike a agrees);
      })
      | in-Some+else-holds-need w ↦ rw w.left-is (record {
        free = c.loop-need.invariant.free;
        alike = λ a agrees. met_more a needs c.loop-need.left.items i _ c.loop-need-test.true (c.loop-need.invariant.alike a agrees) (is_met c.args.answers.now _ w.in-Some.holds w.in-Some.ensures.answered w.if-holds-need.false a agrees);
      })
    ]

pub returns-then-holds-need-clause-alike : goal.returns-then-holds-need-clause-alike
returns-then-holds-need-clause-alike c =
    let needs = c.args.needs.now in
    IfOk-weaker c.unmeetable.result _ (λ (left : Vec Need Global). AreAlike c.args.answers.now needs left.items)
    (λ both is a agrees. rw is (unmet_alike a c.args.answers.now needs c.loop-need.need-index _ _ c.in-Some.holds c.loop-need-test.true agrees c.in-Some.ensures.answered c.if-holds-need.true)) c.unmeetable.ensures

pub returns-then-holds-need-clause-free : goal.returns-then-holds-need-clause-free
returns-then-holds-need-clause-free c =
    IfOk-weaker c.unmeetable.result _ (λ (left : Vec Need Global). AreFree c.args.answers.now left.items) (λ both is. rw is (λ a b agree. never_both a _ ∙ sym (never_both b _))) c.unmeetable.ensures
