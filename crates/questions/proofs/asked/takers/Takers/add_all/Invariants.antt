use Rattle.std.proofs.Common.{◌⊎◌, ℕ, ◌<◌, get_or, Option, Any}
use Rattle.fields.specs.declared.packet.hook.Hook.{Hook}
use Rattle.table.specs.declared.walk.trail.Step.{Step}
use Rattle.questions.specs.Ends.{step_of}
use Rattle.questions.specs.declared.walking.task.Leaf.{Leaf}
use Rattle.questions.specs.steps.Takers.{Grows, IsAmong, IsByThis}
use Rattle.questions.proofs.asked.takers.Takers.add_all.Given as goal

abbrev pub invariant-loop-leaf : goal.invariant-loop-leaf
invariant-loop-leaf l = record {
  grows : Grows l.initial.self l.self;
  added : (k : ℕ) (d : Leaf) → k < l.leaf-index → IsAmong l.self l.fn.hook (step_of (get_or l.found k d));
  only : (hook : Hook) (by : Option Step) → IsAmong l.self hook by → IsAmong l.initial.self hook by ⊎ Any (λ (leaf : Leaf). IsByThis l.fn.hook leaf hook by) l.found;
}
