use Rattle.std.proofs.Common.{◌≡◌, drop, map}
use Rattle.std.specs.List.{list_any}
use Rattle.dumps.specs.Foreign.{rule_in, needs_some}
use Rattle.dumps.proofs.reading.foreign.one_needs.Given as goal

abbrev pub invariant-loop-rule : goal.invariant-loop-rule
invariant-loop-rule l = list_any needs_some (map rule_in (drop l.rule-index l.rules)) ≡ list_any needs_some (map rule_in l.rules)
