use Rattle.std.proofs.Common.{◌≡◌, drop, map}
use Rattle.std.specs.List.{list_any}
use Rattle.dumps.specs.Foreign.{rule_in, is_in}
use Rattle.dumps.proofs.reading.foreign.one_in.Given as goal

abbrev pub invariant-loop-rule : goal.invariant-loop-rule
invariant-loop-rule l = list_any (is_in l.chain) (map rule_in (drop l.rule-index l.rules)) ≡ list_any (is_in l.chain) (map rule_in l.rules)
