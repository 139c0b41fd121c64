use Rattle.std.proofs.Common.{◌≡◌, ◌≤◌, true}
use Rattle.table.specs.declared.walk.trail.Step.{Step}
use Rattle.questions.specs.Scopes.{table_of}
use Rattle.questions.specs.steps.Claimed.{IsGiver, NoneComes}
use Rattle.questions.proofs.asked.givers.told_in_chain.Given as goal

abbrev pub invariant-loop-passed : goal.invariant-loop-passed
invariant-loop-passed l =
    l.clear ≡ true → (step : Step) → step.chain ≡ l.fn.place → step.number ≤ l.passed → IsGiver (table_of l.fn.subject) l.fn.forbidden step → NoneComes l.fn.subject l.fn.course.hook l.fn.starts step
