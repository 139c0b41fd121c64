use Rattle.std.proofs.Common.{◌≡◌, take, drop, ◌++◌}
use Rattle.std.specs.Prelude.{option_map}
use Rattle.std.proofs.Common.{ℕ, List}
use Rattle.fields.specs.text.Cut.{cut_at}
use Rattle.fields.proofs.text.cut.cut_at.Given as goal

abbrev pub invariant-loop-i : goal.invariant-loop-i
invariant-loop-i l = cut_at l.at l.text ≡ option_map (λ (p : List ℕ × List ℕ). (take l.i l.text ++ p.0, p.1)) (cut_at l.at (drop l.i l.text))
