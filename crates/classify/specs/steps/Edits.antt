-- What the steps of an edit leave of a line, and a bit written into the rows of pieces side by side.
use Rattle.std.specs.Prelude.{◌≡◌, ℕ, ◌+◌, ◌≤◌, Bool, List, [], length, insert, remove, slice_set, slice_index_or, ◌≢◌, ◌⊎◌, ◌<◌, suc, false, slice_index}
use Rattle.fields.specs.declared.numbers.spans.Interval.{Interval}
use Rattle.fields.specs.numbers.Spans.{has}
use Rattle.classify.specs.Line.{row_at, starts}
use Rattle.classify.specs.steps.Pieces.{IsRising, StartsAt, SayTheSame, Differ, row_in}

-- ---- What the steps of an edit leave of a line.

-- the piece, with an answer for its start inserted into its row
abbrev pub with_test : ℕ → (ℕ → Bool) → ℕ × List Bool → ℕ × List Bool
with_test at test p = (p.0, insert p.1 at (test p.0))

-- the piece, with a new box's answer inserted
abbrev pub with_answer : ℕ → List Interval → ℕ × List Bool → ℕ × List Bool
with_answer at spans p = with_test at (has spans) p

-- the piece, with an answer for its start written over the one at the place
abbrev pub with_bit : ℕ → (ℕ → Bool) → ℕ × List Bool → ℕ × List Bool
with_bit at test p = (p.0, slice_set p.1 at (test p.0))

-- the piece, with a box's answer written over the one at the place
abbrev pub with_written : ℕ → List Interval → ℕ × List Bool → ℕ × List Bool
with_written at spans p = with_bit at (has spans) p

-- the piece, with the answer at the place removed
abbrev pub without_answer : ℕ → ℕ × List Bool → ℕ × List Bool
without_answer at p = (p.0, remove p.1 at)

-- the new line says of each number what the old one said, and no two neighbours have equal rows
pub record IsMergeOf (top : ℕ) (old new : List (ℕ × List Bool)) : Type 0 where
  pub rising : IsRising top new
  pub same : SayTheSame old new
  pub differ : Differ new

-- the new line says of each number what the old one said, its pieces start at starts of old pieces, and those that P holds of start
-- only where the row changes
pub record IsUnsplitAt (P : ℕ → Type 0) (top : ℕ) (old new : List (ℕ × List Bool)) : Type 0 where
  pub rising : IsRising top new
  pub same : SayTheSame old new
  pub only : (x : ℕ) → StartsAt x new → StartsAt x old
  pub apart : (y : ℕ) → P (suc y) → StartsAt (suc y) new → row_in old y ≢ row_in old (suc y)

-- one number alone
abbrev pub IsNumber : ℕ → ℕ → Type 0
IsNumber x y = y ≡ x

-- the start of an interval, or the number after its end
abbrev pub IsEndOf : Interval → ℕ → Type 0
IsEndOf s x = (x ≡ s.first) ⊎ (x ≡ s.last + 1)

-- the line says of each number up to the top which sets have it
abbrev pub Says : ℕ → List (List Interval) → List (ℕ × List Bool) → Type 0
Says top sets line = (x : ℕ) → x ≤ top → row_in line x ≡ row_at has sets x

-- the row of a piece
abbrev pub row_of : List (ℕ × List Bool) → ℕ → List Bool
row_of line j = let none : ℕ × List Bool = (0, []) in let p : ℕ × List Bool = slice_index_or line j none in p.1

-- the piece after the j-th is joined to it only if their rows are equal; if they are, and the two bits differ, it is joined
abbrev pub IsJoined : Bool → Bool → ℕ → List (ℕ × List Bool) → List (ℕ × List Bool) → Type 0
IsJoined bit above j old new =
    ((new ≡ old) × (suc j < length old → bit ≢ above → row_of old j ≢ row_of old (suc j))) ⊎ ((suc j < length old)
    × (row_of old j ≡ row_of old (suc j)) × (new ≡ remove old (suc j)))

-- the piece after the j-th is joined to it where their rows are equal apart from the answers of one box
abbrev pub IsJoinedBeside : ℕ → ℕ → List (ℕ × List Bool) → List (ℕ × List Bool) → Type 0
IsJoinedBeside at j old new =
    ((new ≡ old) × (remove (row_of old j) at ≢ remove (row_of old (j + 1)) at)) ⊎ ((new ≡ remove old (j + 1)) × (remove (row_of old j) at ≡ remove (row_of old (j + 1)) at))

-- neighbours that have the same bit at the place still have different rows after the change
abbrev pub KeepsApart : (ℕ × List Bool → ℕ × List Bool) → ℕ → List (ℕ × List Bool) → Type 0
KeepsApart g at line =
    (j : ℕ) → suc j < length line → slice_index_or (row_of line j) at false ≡ slice_index_or (row_of line (suc j)) at false
    → (g (slice_index_or line j (0, []))).1 ≢ (g (slice_index_or line (suc j) (0, []))).1

-- ---- Pieces side by side, and a bit written into their rows.

-- the pieces that start in an interval are those from one place up to another
pub record IsRunIn (s : Interval) (from to : ℕ) (line : List (ℕ × List Bool)) : Type 0 where
  pub some : from < to
  pub ends : to ≤ length line
  pub start : slice_index (starts line) from ≡ s.first
  pub below : (j : ℕ) → j < from → slice_index (starts line) j < s.first
  pub low : (j : ℕ) → from ≤ j → j < length line → s.first ≤ slice_index (starts line) j
  pub high : (j : ℕ) → j < to → slice_index (starts line) j ≤ s.last
  pub above : (j : ℕ) → to ≤ j → j < length line → s.last < slice_index (starts line) j

-- a bit stands at a place in the rows of the pieces from one up to another, and else all is as before
pub record IsRunWritten (at : ℕ) (bit : Bool) (from to : ℕ) (old new : List (ℕ × List Bool)) : Type 0 where
  pub as_long : length new ≡ length old
  pub written : (j : ℕ) (d : ℕ × List Bool) → from ≤ j → j < to → slice_index_or new j d ≡ with_bit at (λ _. bit) (slice_index_or old j d)
  pub before : (j : ℕ) (d : ℕ × List Bool) → j < from → slice_index_or new j d ≡ slice_index_or old j d
  pub after : (j : ℕ) (d : ℕ × List Bool) → to ≤ j → slice_index_or new j d ≡ slice_index_or old j d
