use Rattle.std.proofs.Common.{◌≡◌, map, take}
use Rattle.notation.specs.Range.{comma_for}
use Rattle.notation.proofs.joined.with_commas.Given as goal

-- the bytes so far are copied
abbrev pub invariant-loop-byte : goal.invariant-loop-byte
invariant-loop-byte l = l.made.items ≡ map comma_for (take l.byte-index l.text)
