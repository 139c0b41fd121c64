-- Cutting a text in two.
use Rattle.std.specs.Prelude.{ℕ, ◌==◌, List, [], ◌∷◌, Option, Some, None, if◌then◌else◌}
use Rattle.fields.specs.Sequence.{◌>>=◌}

-- what stands before the first such byte, and what stands after it; nothing without such a byte
abbrev pub cut_at : ℕ → List ℕ → Option (List ℕ × List ℕ)
cut_at b [] = None
cut_at b (c ∷ cs) = if c == b then Some ([], cs) else (cut_at b cs >>= λ p. Some (c ∷ p.0, p.1))
