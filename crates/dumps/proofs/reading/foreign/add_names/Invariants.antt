use Rattle.std.proofs.Common.{◌≡◌, ◌++◌, drop}
use Rattle.dumps.specs.Foreign.{kept_names}
use Rattle.dumps.proofs.reading.foreign.add_names.Given as goal

abbrev pub invariant-loop-name : goal.invariant-loop-name
invariant-loop-name l = kept_names l.set.items ++ kept_names (drop l.name-index l.names) ≡ kept_names l.initial.set.items ++ kept_names l.names
