-- What contracts say of rows that one more row turns: where that has a bit, the bits of the others are turned.
use Rattle.std.specs.Prelude.{◌≡◌, Bool, List, [], ◌∷◌, length, map}
use Rattle.std.specs.Bool.{xor}
use Rattle.std.specs.List.{AllByRecursion}

-- a row's own bits, turned where another row has a bit
abbrev pub turned : List Bool → List Bool → List Bool
turned turn [] = []
turned [] (b ∷ own) = b ∷ turned [] own
turned (t ∷ turn) (b ∷ own) = xor t b ∷ turned turn own

-- all rows but the first, which turns them
abbrev pub turned_rows : List (List Bool) → List (List Bool)
turned_rows [] = []
turned_rows (turn ∷ own) = map (turned turn) own

-- there is a first row, and the others are as long
abbrev pub AreAsLong : List (List Bool) → Type 0
AreAsLong [] = ⊥
AreAsLong (turn ∷ own) = AllByRecursion (λ row. length row ≡ length turn) own
