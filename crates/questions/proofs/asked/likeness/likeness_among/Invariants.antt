use Rattle.std.proofs.Common.{◌≡◌, ℕ, ◌<◌, true, false, get_or, Any}
use Rattle.questions.specs.Scopes.{whole_of}
use Rattle.questions.specs.asked.Alike.{IsGivenBy}
use Rattle.questions.specs.declared.walking.task.Leaf.{Leaf}
use Rattle.questions.specs.steps.Compared.{MayDifferIn}
use Rattle.questions.proofs.laws.DifferLaws.{IsTold}
use Rattle.questions.proofs.asked.likeness.likeness_among.Given as goal

abbrev pub invariant-loop-leaf : goal.invariant-loop-leaf
invariant-loop-leaf l = record {
  same : l.clear ≡ true → (k : ℕ) (d : Leaf) → k < l.leaf-index → IsGivenBy l.new l.fn.hook (get_or l.found k d);
  each : (k : ℕ) (d : Leaf) → k < l.leaf-index → IsTold (whole_of l.new) l.fn.hook l.fn.budget (get_or l.found k d);
  some : l.clear ≡ false → Any (MayDifferIn (whole_of l.new) l.fn.hook l.fn.budget) l.found;
}
