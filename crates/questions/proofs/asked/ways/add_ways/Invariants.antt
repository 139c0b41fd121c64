use Rattle.std.specs.Prelude.{Contains}
use Rattle.table.specs.declared.walk.trail.Step.{Step}
use Rattle.questions.specs.steps.Leading.{IsWay}
use Rattle.questions.proofs.laws.BoxesLaws.{AreBelow, AreOnly}
use Rattle.questions.proofs.asked.ways.add_ways.Given as goal

abbrev pub invariant-loop-passed : goal.invariant-loop-passed
invariant-loop-passed l = record {
  kept : (by : Step) → Contains l.initial.ways.items by → Contains l.ways.items by;
  below : AreBelow (IsWay l.table.table l.marks) l.fn.place l.passed l.ways.items;
  only : AreOnly (IsWay l.table.table l.marks) l.fn.place l.initial.ways.items l.ways.items;
}
