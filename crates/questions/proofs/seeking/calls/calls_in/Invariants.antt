use Rattle.std.proofs.Common.{◌<◌, All}
use Rattle.table.specs.declared.walk.trail.Step.{Step}
use Rattle.questions.specs.boxes.Calls.{IsCall, IsCalled}
use Rattle.questions.proofs.seeking.calls.calls_in.Given as goal

abbrev pub invariant-loop-place : goal.invariant-loop-place
invariant-loop-place l = record {
  below : (by : Step) → by.chain < l.place → IsCalled l.table.table l.calls.items by;
  only : All (IsCall l.table.table) l.calls.items;
}
