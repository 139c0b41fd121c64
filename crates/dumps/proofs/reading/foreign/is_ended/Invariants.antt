use Rattle.std.proofs.Common.{◌≡◌, drop, map}
use Rattle.dumps.specs.Foreign.{is_ended, rule_in}
use Rattle.dumps.proofs.reading.foreign.is_ended.Given as goal

abbrev pub invariant-loop-rule : goal.invariant-loop-rule
invariant-loop-rule l = is_ended l.chain (map rule_in (drop l.rule-index l.rules)) ≡ is_ended l.chain (map rule_in l.rules)
