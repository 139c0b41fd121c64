use Rattle.std.proofs.Common.{get_or, sym, ◌∙◌, arith, true≢false}
use Rattle.table.specs.declared.walk.trail.Step.{Step}
use Rattle.std.proofs.lemmas.List.{get_or_default}
use Rattle.questions.specs.asked.Alike.{IsAlwaysSettled}
use Rattle.questions.proofs.laws.TrailLaws.{items_next}
use Rattle.questions.proofs.asked.verdicts.likeness_of_all.Goals as goal
use Rattle.questions.proofs.asked.verdicts.likeness_of_all.Goals.{in-Same, in-Unclear}

abbrev no_step : Step
no_step = record { chain = 0; number = 0 }

pub loop-step-preserved : goal.loop-step-preserved
loop-step-preserved c =
    elim c.match-branch-2.branch [
      | in-Same w ↦ record {
        same = λ clear. items_next (IsAlwaysSettled c.args.own.now c.args.old.now c.args.new.now c.args.course.hook) c.args.steps.now c.loop-step.step-index (get_or c.args.steps.now c.loop-step.step-index no_step) (omega arith) (get_or_default c.args.steps.now c.loop-step.step-index no_step _ (omega arith)) (c.loop-step.invariant.same (sym w.clear-is ∙ clear)) (rw w.in-Same.is at c.in_ok-likeness_of.ensures.says);
        some = λ off. c.loop-step.invariant.some (sym w.clear-is ∙ off);
      }
      | in-Unclear w ↦ record {
        same = λ clear. absurd (true≢false (sym clear ∙ w.clear-is));
        some = λ _. (c.loop-step.step-index, get_or c.args.steps.now c.loop-step.step-index no_step, omega arith, sym (get_or_default c.args.steps.now c.loop-step.step-index no_step _ (omega arith)), rw w.in-Unclear.is at c.in_ok-likeness_of.ensures.unclear);
      }
    ]

pub returns-then-clear-clause-says : goal.returns-then-clear-clause-says
returns-then-clear-clause-says c = λ k d lt. c.loop-step.invariant.same c.if-clear.true k d (omega (arith, lt))
