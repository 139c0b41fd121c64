use Rattle.std.proofs.Common.{◌≡◌, drop}
use Rattle.notation.specs.Range.{digits_from}
use Rattle.notation.proofs.interfaces.digits_value.Given as goal

-- the answer is that of the digits that are left, after the number so far
abbrev pub invariant-loop-byte : goal.invariant-loop-byte
invariant-loop-byte l = digits_from l.value (drop l.byte-index l.text) ≡ digits_from 0 l.text
