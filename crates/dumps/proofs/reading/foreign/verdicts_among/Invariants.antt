use Rattle.std.proofs.Common.{◌≡◌, ◌++◌, drop, map}
use Rattle.dumps.specs.Foreign.{lent_verdicts, rule_in, verdicts_in}
use Rattle.dumps.proofs.reading.foreign.verdicts_among.Given as goal

abbrev pub invariant-loop-rule : goal.invariant-loop-rule
invariant-loop-rule l =
    lent_verdicts l.all.items ++ verdicts_in l.chain (map rule_in (drop l.rule-index l.rules)) ≡ verdicts_in l.chain (map rule_in l.rules)
