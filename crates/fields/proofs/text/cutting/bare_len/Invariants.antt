use Rattle.std.proofs.Common.{◌≡◌, true, take, All}
use Rattle.fields.specs.text.Words.{is_bare}
use Rattle.fields.proofs.text.cutting.bare_len.Given as goal

abbrev pub invariant-loop-i : goal.invariant-loop-i
invariant-loop-i l = All (λ byte. is_bare byte ≡ true) (take l.i l.bytes)
