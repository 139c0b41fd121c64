-- Tables of names and numbers, as the code has them.
use Rattle.std.specs.Prelude.{ℕ, List, map}
use Rattle.std.specs.Borrow.{Bor}

-- the names and numbers of the rows
abbrev pub rows_of : List (Bor (List ℕ) × ℕ) → List (List ℕ × ℕ)
rows_of rows = map (λ row. (row.0.now, row.1)) rows

-- the names with their first and last numbers
abbrev pub ranges_of : List (Bor (List ℕ) × ℕ × ℕ) → List (List ℕ × (ℕ × ℕ))
ranges_of rows = map (λ row. (row.0.now, (row.1, row.2))) rows
