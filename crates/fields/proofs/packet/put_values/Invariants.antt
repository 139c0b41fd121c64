use Rattle.std.proofs.Common.{◌≡◌, map, take}
use Rattle.fields.specs.steps.GivenNumbers.{value_in}
use Rattle.fields.proofs.packet.put_values.Given as goal

abbrev pub invariant-loop-i : goal.invariant-loop-i
invariant-loop-i l = take l.i l.values ≡ map (value_in l.given) (take l.i l.fields)
