use Rattle.std.proofs.Common.{◌≡◌, drop}
use Rattle.rules.specs.rule.Needs.{unmet_matches}
use Rattle.rules.specs.steps.Views.{view_matches}
use Rattle.rules.proofs.reading.unmet_matches.Given as goal

abbrev pub invariant-loop-one : goal.invariant-loop-one
invariant-loop-one l = unmet_matches l.option_values (view_matches (drop l.one-index l.matches)) ≡ unmet_matches l.option_values (view_matches l.matches)
