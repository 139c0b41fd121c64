-- What the pieces of a line say of each number, and where pieces start as a set of numbers begins and ends.
use Rattle.std.specs.Prelude.{◌≡◌, ◌≢◌, ℕ, suc, ◌<◌, ◌≤◌, nat_le, Bool, List, [], ◌∷◌, if◌then◌else◌, ◌⊎◌, length, ◌+◌}
use Rattle.fields.specs.declared.numbers.spans.Interval.{Interval}
use Rattle.fields.specs.numbers.Spans.{has}

-- ---- What a line says of each number, whether or not it is the shortest that says so.

-- the last piece that starts at or before x, and `first` where there is none
abbrev pub piece_at : ℕ × List Bool → List (ℕ × List Bool) → ℕ → ℕ × List Bool
piece_at first [] x = first
piece_at first (p ∷ ps) x = piece_at (if nat_le p.0 x then p else first) ps x

-- what the line says of x
abbrev pub row_in : List (ℕ × List Bool) → ℕ → List Bool
row_in line x = (piece_at (0, []) line x).1

-- each piece starts above the one before, the first above a, and none above the top
abbrev pub IsRisingFrom : ℕ → ℕ → List (ℕ × List Bool) → Type 0
IsRisingFrom top a [] = Unit {0}
IsRisingFrom top a (p ∷ ps) = (a < p.0) × (p.0 ≤ top) × IsRisingFrom top p.0 ps

-- the first piece starts at 0
abbrev pub IsRising : ℕ → List (ℕ × List Bool) → Type 0
IsRising top [] = ⊥
IsRising top (p ∷ ps) = (p.0 ≡ 0) × IsRisingFrom top 0 ps

-- no two neighbours have equal rows, nor the first and `row`
abbrev pub DifferFrom : List Bool → List (ℕ × List Bool) → Type 0
DifferFrom row [] = Unit {0}
DifferFrom row (p ∷ ps) = (row ≢ p.1) × DifferFrom p.1 ps

-- no two neighbours have equal rows
abbrev pub Differ : List (ℕ × List Bool) → Type 0
Differ [] = Unit {0}
Differ (p ∷ ps) = DifferFrom p.1 ps

-- a piece starts at x
abbrev pub StartsAt : ℕ → List (ℕ × List Bool) → Type 0
StartsAt x [] = ⊥
StartsAt x (p ∷ ps) = (x ≡ p.0) ⊎ StartsAt x ps

-- both say the same of every number
abbrev pub SayTheSame : List (ℕ × List Bool) → List (ℕ × List Bool) → Type 0
SayTheSame old new = (x : ℕ) → row_in new x ≡ row_in old x

-- new says what old says, each piece of old still starts in it, and the others start where the set begins or ends
pub record IsSplitOf (top : ℕ) (spans : List Interval) (old new : List (ℕ × List Bool)) : Type 0 where
  pub rising : IsRising top new
  pub same : SayTheSame old new
  pub keeps : (x : ℕ) → StartsAt x old → StartsAt x new
  pub only : (x : ℕ) → StartsAt (suc x) new → StartsAt (suc x) old ⊎ (has spans x ≢ has spans (suc x))

-- each row has so many bits
abbrev pub EachRow : ℕ → List (ℕ × List Bool) → Type 0
EachRow n [] = Unit {0}
EachRow n (p ∷ ps) = (length p.1 ≡ n) × EachRow n ps

-- how many bits the first row has
abbrev pub row_bits : List (ℕ × List Bool) → ℕ
row_bits [] = 0
row_bits (p ∷ ps) = length p.1

-- ---- Where a set of numbers begins and ends, and whether pieces start there.

-- each number at which the set begins or ends is where a piece starts
abbrev pub CutsStart : ℕ → List Interval → List (ℕ × List Bool) → Type 0
CutsStart top spans line = (x : ℕ) → suc x ≤ top → has spans x ≢ has spans (suc x) → StartsAt (suc x) line

-- a piece starts where the interval begins, and one after its end
abbrev pub EndsStart : ℕ → List (ℕ × List Bool) → Interval → Type 0
EndsStart top line s = StartsAt s.first line × (s.last < top → StartsAt (s.last + 1) line)

-- the set begins or ends at a number
abbrev pub ChangesAt : List Interval → ℕ → Type 0
ChangesAt spans x = (y : ℕ) → suc y ≡ x → has spans y ≢ has spans (suc y)

-- wherever a piece starts, the row changes, or the set begins or ends there
abbrev pub IsApart : List Interval → List (ℕ × List Bool) → Type 0
IsApart spans line = (y : ℕ) → StartsAt (suc y) line → (row_in line y ≢ row_in line (suc y)) ⊎ (has spans y ≢ has spans (suc y))
