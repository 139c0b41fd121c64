use Rattle.std.proofs.Common.{◌≡◌, drop}
use Rattle.dumps.specs.Foreign.{is_named, kept_names}
use Rattle.dumps.proofs.reading.foreign.is_named.Given as goal

abbrev pub invariant-loop-one : goal.invariant-loop-one
invariant-loop-one l = is_named (kept_names (drop l.one-index l.names)) l.name ≡ is_named (kept_names l.names) l.name
