use Rattle.std.proofs.Common.{◌≡◌, ℕ, List, true, take}
use Rattle.std.specs.List.{list_all}
use Rattle.rules.specs.rule.Crossing.{HavePorts, option_value_crosses}
use Rattle.rules.proofs.rule.port_sets.match_says.Given as goal

abbrev pub invariant-loop-option_value : goal.invariant-loop-option_value
invariant-loop-option_value l =
    (numbers : List ℕ) → HavePorts l.source l.destination numbers → list_all (option_value_crosses numbers) (take l.option_value-index l.one.option_values.items) ≡ true
