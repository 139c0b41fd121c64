use Rattle.std.proofs.Common.{◌≡◌, ◌++◌, drop, flat_map}
use Rattle.dumps.specs.Own.{escaped}
use Rattle.dumps.proofs.apart.own_line.append_all_escaped.Given as goal

abbrev pub invariant-loop-byte : goal.invariant-loop-byte
invariant-loop-byte l = l.line.items ++ flat_map escaped (drop l.byte-index l.text) ≡ l.initial.line.items ++ flat_map escaped l.text
