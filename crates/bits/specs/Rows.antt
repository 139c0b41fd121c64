-- What contracts say of rows of equally many bits.
use Rattle.std.specs.Prelude.{◌≡◌, ℕ, ◌<◌, ◌≤◌, Bool, List, [], length, slice_index_or, slice_set}

-- the rows in their order, and how many bits can be added to each before memory is needed
pub record RowsAndRoom : Type 0 where
  pub rows : List (List Bool)
  pub room : ℕ

-- the places of two words: 128
abbrev pub two_words : ℕ
two_words = 128

-- a bit stands at a place of the rows from one up to another, and else all is as before
pub record IsRunWritten (at : ℕ) (bit : Bool) (from to : ℕ) (old new : List (List Bool)) : Type 0 where
  pub as_long : length new ≡ length old
  pub written : (k : ℕ) → from ≤ k → k < to → slice_index_or new k [] ≡ slice_set (slice_index_or old k []) at bit
  pub before : (k : ℕ) → k < from → slice_index_or new k [] ≡ slice_index_or old k []
  pub after : (k : ℕ) → to ≤ k → slice_index_or new k [] ≡ slice_index_or old k []
