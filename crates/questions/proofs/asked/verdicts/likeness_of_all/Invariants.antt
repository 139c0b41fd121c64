use Rattle.std.proofs.Common.{◌≡◌, ℕ, ◌<◌, true, false, get_or, Any}
use Rattle.table.specs.declared.walk.trail.Step.{Step}
use Rattle.questions.specs.Scopes.{whole_of}
use Rattle.questions.specs.asked.Alike.{IsAlwaysSettled}
use Rattle.questions.specs.steps.Compared.{MayDifferOf}
use Rattle.questions.proofs.asked.verdicts.likeness_of_all.Given as goal

abbrev pub invariant-loop-step : goal.invariant-loop-step
invariant-loop-step l = record {
  same : l.clear ≡ true → (k : ℕ) (d : Step) → k < l.step-index → IsAlwaysSettled l.own l.old l.new l.fn.course.hook (get_or l.steps k d);
  some : l.clear ≡ false → Any (MayDifferOf (whole_of l.own) (whole_of l.old) (whole_of l.new) l.fn.course.hook l.fn.course.budget) l.steps;
}
