use Rattle.std.proofs.Common.{◌≡◌, ◌++◌, take}
use Rattle.std.specs.Prelude.{filter}
use Rattle.notation.specs.ValueText.{is_some_byte}
use Rattle.notation.proofs.values.put_name.Given as goal

-- the bytes so far but 0 are written
abbrev pub invariant-loop-byte : goal.invariant-loop-byte
invariant-loop-byte l = l.line.items ≡ l.fn.line.items ++ filter is_some_byte (take l.byte-index l.bytes)
