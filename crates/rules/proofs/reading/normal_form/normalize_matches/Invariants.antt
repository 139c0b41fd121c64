use Rattle.std.proofs.Common.{◌≡◌}
use Rattle.rules.proofs.laws.reading.StepLaws.{normal_first}
use Rattle.rules.specs.steps.Views.{view_matches}
use Rattle.rules.proofs.reading.normal_form.normalize_matches.Given as goal

abbrev pub invariant-loop-one : goal.invariant-loop-one
invariant-loop-one l = view_matches l.matches ≡ normal_first l.one-index (view_matches l.initial.matches)
