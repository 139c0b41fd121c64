use Rattle.std.proofs.Common.{◌≡◌, ℕ, List, true, take}
use Rattle.std.specs.List.{list_all}
use Rattle.rules.specs.rule.Crossing.{HavePorts, match_crosses}
use Rattle.rules.specs.steps.Views.{view_match}
use Rattle.rules.proofs.rule.port_sets.matches_say.Given as goal

abbrev pub invariant-loop-one : goal.invariant-loop-one
invariant-loop-one l =
    (numbers : List ℕ) → HavePorts l.source l.destination numbers → list_all (λ m. match_crosses numbers (view_match m)) (take l.one-index l.matches) ≡ true
