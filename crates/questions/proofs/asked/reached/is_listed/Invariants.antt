use Rattle.std.proofs.Common.{ℕ, ◌<◌, get_or}
use Rattle.questions.specs.declared.asked.reached.Reached.{Reached}
use Rattle.questions.specs.steps.Groups.{IsNamed}
use Rattle.questions.proofs.asked.reached.is_listed.Given as goal

abbrev pub invariant-loop-entry : goal.invariant-loop-entry
invariant-loop-entry l = (k : ℕ) (d : Reached) → k < l.entry-index → IsNamed l.fn.verdict l.fn.by (get_or l.reached k d) → ⊥
