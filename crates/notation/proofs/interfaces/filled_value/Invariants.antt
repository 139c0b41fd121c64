use Rattle.std.proofs.Common.{◌≡◌, ◌^◌, ◌<◌, take}
use Rattle.fields.specs.values.Interface.{filled, bytes_value}
use Rattle.notation.proofs.interfaces.filled_value.Given as goal

-- the number of the bytes so far
abbrev pub invariant-loop-place : goal.invariant-loop-place
invariant-loop-place l = (l.value ≡ bytes_value (take l.place (filled l.fill l.bytes))) × (l.value < 256 ^ l.place)
