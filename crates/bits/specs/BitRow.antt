-- What contracts say of a row of bits.
use Rattle.std.specs.Prelude.{ℕ, ◌+◌, ◌-◌, ◌%◌, max, Bool, List, length}

-- the bits of a row, and how many more can be added before it has to grow
pub record BitsAndRoom : Type 0 where
  pub bits : List Bool
  pub room : ℕ

-- how many places are free in the last word of so many bits
abbrev pub places_left : ℕ → ℕ
places_left len = 63 - (len + 63) % 64

-- how many bits can be added to a row before memory is needed, at least the free places of its last word
abbrev pub row_room : BitsAndRoom → ℕ
row_room r = max r.room (places_left (length r.bits))
