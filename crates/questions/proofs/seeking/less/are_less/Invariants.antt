use Rattle.std.proofs.Common.{ℕ, ◌<◌, get_or}
use Rattle.questions.specs.declared.walking.scope.Scope.{Scope}
use Rattle.questions.specs.steps.Seeking.{IsLess}
use Rattle.questions.proofs.seeking.less.are_less.Given as goal

abbrev pub invariant-loop-part : goal.invariant-loop-part
invariant-loop-part l = (k : ℕ) (d : Scope) → k < l.part-index → IsLess l.whole (get_or l.parts k d)
