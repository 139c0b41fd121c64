use Rattle.std.proofs.Common.{◌≡◌, ◌++◌, drop, map}
use Rattle.dumps.specs.Foreign.{kept_names, rule_in, written}
use Rattle.dumps.proofs.reading.foreign.add_written.Given as goal

abbrev pub invariant-loop-place : goal.invariant-loop-place
invariant-loop-place l =
    kept_names l.names.items ++ written (map rule_in (drop l.place l.rules)) ≡ kept_names l.initial.names.items ++ written (map rule_in l.rules)
