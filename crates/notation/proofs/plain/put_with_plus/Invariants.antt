use Rattle.std.proofs.Common.{◌≡◌, ◌++◌, map, take}
use Rattle.notation.specs.IntervalText.{plus_for}
use Rattle.notation.proofs.plain.put_with_plus.Given as goal

-- the bytes so far are written
abbrev pub invariant-loop-byte : goal.invariant-loop-byte
invariant-loop-byte l = l.text.items ≡ l.initial.text.items ++ map plus_for (take l.byte-index l.names)
