use Rattle.std.proofs.Common.{ℕ, ◌<◌, get_or, All}
use Rattle.questions.specs.declared.walking.task.Leaf.{Leaf}
use Rattle.questions.specs.steps.Groups.{AreApart, IsGroup, IsListed}
use Rattle.questions.proofs.asked.reached.grouped.Given as goal

abbrev pub invariant-loop-leaf : goal.invariant-loop-leaf
invariant-loop-leaf l = record {
  each : All (IsGroup l.fn.field l.exact) l.reached.items;
  listed : (k : ℕ) (d : Leaf) → k < l.leaf-index → IsListed l.reached.items (get_or l.exact k d);
  one : AreApart l.reached.items;
}
