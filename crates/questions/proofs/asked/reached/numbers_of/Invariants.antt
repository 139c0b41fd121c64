use Rattle.std.proofs.Common.{◌≡◌, ℕ, ◌<◌, ◌≤◌, true, get_or, Any}
use Rattle.fields.specs.numbers.Field.{top}
use Rattle.fields.specs.numbers.Spans.{has}
use Rattle.questions.specs.declared.walking.task.Leaf.{Leaf}
use Rattle.questions.specs.steps.Groups.{GivesNumber}
use Rattle.questions.proofs.asked.reached.numbers_of.Given as goal

abbrev pub invariant-loop-leaf : goal.invariant-loop-leaf
invariant-loop-leaf l = record {
  greatest : l.numbers.top ≡ top l.field;
  all : (k : ℕ) (d : Leaf) → k < l.leaf-index → (x : ℕ) → x ≤ top l.field → GivesNumber l.field l.fn.verdict l.fn.by x (get_or l.exact k d) → has l.numbers.intervals x ≡ true;
  only : (x : ℕ) → x ≤ top l.field → has l.numbers.intervals x ≡ true → Any (GivesNumber l.field l.fn.verdict l.fn.by x) l.exact;
}
