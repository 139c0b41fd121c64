use Rattle.std.proofs.Common.{◌≡◌, ◌<◌, take, length}
use Rattle.std.specs.Prelude.{IfSome}
use Rattle.rules.specs.reading.Steps.{last_with}
use Rattle.rules.specs.steps.Views.{view_matches}
use Rattle.rules.proofs.reading.steps.last_with.Given as goal

abbrev pub invariant-loop-i : goal.invariant-loop-i
invariant-loop-i l = record {
  value : l.found ≡ last_with l.option (view_matches (take l.i l.matches));
  within : IfSome l.found (λ i. i < length l.matches);
}
