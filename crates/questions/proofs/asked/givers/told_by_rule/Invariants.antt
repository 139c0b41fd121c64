use Rattle.std.proofs.Common.{◌≡◌, ℕ, ◌<◌, true, get_or}
use Rattle.questions.specs.asked.Always.{IsAlwaysDeadIn}
use Rattle.questions.specs.declared.walking.scope.Scope.{Scope}
use Rattle.questions.proofs.asked.givers.told_by_rule.Given as goal

abbrev pub invariant-loop-start : goal.invariant-loop-start
invariant-loop-start l = l.clear ≡ true → (k : ℕ) (d : Scope) → k < l.start-index → IsAlwaysDeadIn l.fn.subject l.fn.step l.fn.course.hook (get_or l.fn.starts k d)
