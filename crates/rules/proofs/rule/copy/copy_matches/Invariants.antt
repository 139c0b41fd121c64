use Rattle.std.proofs.Common.{◌≡◌, take}
use Rattle.rules.specs.steps.Views.{view_matches}
use Rattle.rules.proofs.rule.copy.copy_matches.Given as goal

abbrev pub invariant-loop-one : goal.invariant-loop-one
invariant-loop-one l = view_matches l.copies.items ≡ view_matches (take l.one-index l.matches)
