-- What contracts say of rows of equally many bits with a margin: blank places before the first bit of each row.
use Rattle.std.specs.Prelude.{◌≡◌, ℕ, ◌-◌, nat_lt, Bool, false, List, ◌++◌, map, replicate, if◌then◌else◌}
use Rattle.bits.specs.Rows.{two_words}

-- how many bits can be added to each row before memory is needed, and how many of these places stand before its first bit
pub record Room : Type 0 where
  pub places : ℕ
  pub before : ℕ

-- the rows in their order, and their room
pub record RowsInRoom : Type 0 where
  pub rows : List (List Bool)
  pub room : Room

-- the row after so many blank places
abbrev pub after_margin : ℕ → List Bool → List Bool
after_margin margin row = replicate margin false ++ row

-- the rows, each after so many blank places
abbrev pub AreAfter : ℕ → List (List Bool) → List (List Bool) → Type 0
AreAfter margin rows wide = wide ≡ map (after_margin margin) rows

-- how many blank places are left after a row is closed up: two words fewer or, where there are less than that, one fewer
abbrev pub closed_up : ℕ → ℕ
closed_up before = if nat_lt before two_words then before - 1 else before - two_words
