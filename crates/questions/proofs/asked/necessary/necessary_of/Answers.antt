use Rattle.std.proofs.Common.{List, ◌+◌, sym, subst, ◌∙◌}
use Rattle.questions.specs.Foreign.{AreConsistent}
use Rattle.questions.specs.asked.Necessary.{AreEnough, MayNotSuffice}
use Rattle.questions.specs.declared.foreign.answers.Answer.{Answer}
use Rattle.questions.proofs.laws.NecessaryLaws.{AreTried, all_tried, none_tried, one_goes, one_stays}
use Rattle.questions.proofs.asked.necessary.necessary_of.Goals as goal
use Rattle.questions.proofs.asked.necessary.necessary_of.Goals.{then-branch, else-branch}

pub loop-answer-init : goal.loop-answer-init
loop-answer-init c =
    let s = c.args.subject.now in
    let p = c.args.packet.now in
    record {
      enough = λ all. subst (λ (l : List Answer). AreEnough s c.args.step p l) (sym c.in_ok-necessary.ensures) all;
      tried = rw (c.in_ok-necessary.ensures, c.listed-answer-items.ensures) (none_tried s c.args.step p c.args.budget c.args.answers.now);
    }

pub loop-answer-preserved : goal.loop-answer-preserved
loop-answer-preserved c =
    let s = c.args.subject.now in
    let p = c.args.packet.now in
    let all : List Answer = c.listed-answer-items.result.now in
    let Enough : List Answer → Type 0 = λ l. AreEnough s c.args.step p l in
    let Tried : List Answer → Type 0 = λ l. AreTried s c.args.step p c.args.budget all (c.loop-answer.answer-index + 1) l in
    let Consistent : List Answer → Type 0 = λ l. AreConsistent l in
    let May : List Answer → Type 0 = λ l. MayNotSuffice s c.args.step p c.args.budget l in
    elim c.if-branch.branch [
      | then-branch w ↦ record {
        enough = λ _. subst Enough (sym w.necessary-is) (c.in_ok-suffice_without.ensures.yes w.if-branch.true);
        tried = subst Tried (sym (w.necessary-is ∙ c.in_ok-others.ensures)) (one_goes s c.args.step p c.args.budget all c.loop-answer.necessary c.loop-answer.answer-index _ c.loop-answer-test.true c.loop-answer.invariant.tried);
      }
      | else-branch w ↦ record {
        enough = λ first. subst Enough (sym w.necessary-is) (c.loop-answer.invariant.enough first);
        tried = subst Tried (sym w.necessary-is) (one_stays s c.args.step p c.args.budget all c.loop-answer.necessary c.loop-answer.answer-index _ c.loop-answer-test.true c.loop-answer.invariant.tried
            (subst Consistent c.in_ok-others.ensures c.stand.ensures) (subst May c.in_ok-others.ensures (c.in_ok-suffice_without.ensures.no w.if-branch.false)));
      }
    ]

pub returns-clause-necessary : goal.returns-clause-necessary
returns-clause-necessary c = all_tried c.args.subject.now c.args.step c.args.packet.now c.args.budget c.listed-answer-items.result.now c.loop-answer.necessary c.loop-answer.answer-index c.loop-answer-test.false c.loop-answer.invariant.tried
