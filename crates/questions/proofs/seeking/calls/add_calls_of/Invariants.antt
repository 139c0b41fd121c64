use Rattle.std.specs.Prelude.{All}
use Rattle.table.specs.declared.walk.trail.Step.{Step}
use Rattle.questions.specs.boxes.Calls.{IsCall, IsCalled}
use Rattle.questions.proofs.laws.WayLaws.{AreCalledBelow}
use Rattle.questions.proofs.seeking.calls.add_calls_of.Given as goal

abbrev pub invariant-loop-passed : goal.invariant-loop-passed
invariant-loop-passed l = record {
  kept : (by : Step) → IsCalled l.table.table l.initial.calls.items by → IsCalled l.table.table l.calls.items by;
  only : All (IsCall l.table.table) l.initial.calls.items → All (IsCall l.table.table) l.calls.items;
  below : AreCalledBelow l.table.table l.fn.place l.passed l.calls.items;
}
