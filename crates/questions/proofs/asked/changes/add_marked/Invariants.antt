use Rattle.std.specs.Prelude.{Contains}
use Rattle.table.specs.declared.walk.trail.Step.{Step}
use Rattle.questions.specs.steps.Shared.{IsMarkedRule}
use Rattle.questions.proofs.laws.BoxesLaws.{AreBelow, AreOnly}
use Rattle.questions.proofs.asked.changes.add_marked.Given as goal

abbrev pub invariant-loop-passed : goal.invariant-loop-passed
invariant-loop-passed l = record {
  kept : (by : Step) → Contains l.initial.found.items by → Contains l.found.items by;
  below : AreBelow (IsMarkedRule l.table.table l.marks) l.fn.place l.passed l.found.items;
  only : AreOnly (IsMarkedRule l.table.table l.marks) l.fn.place l.initial.found.items l.found.items;
}
