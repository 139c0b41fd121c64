-- A line as it is stored: where its pieces start, its rows, and whole lines, which a search leaves out.
use Rattle.std.specs.Prelude.{ℕ, ◌+◌, ◌^◌, ◌≤◌, List, length, All, ◌≡◌, ◌-◌, ◌%◌, Bool, [], ◌∷◌, refl, ◌<◌, true, false, slice_index, slice_index_or}
use Rattle.std.specs.Coded.{Coded, Coded-set, code_by, coded_ℕ, coded_bool, coded_list, coded×, ×_prop, Unit-prop, le_prop}
use Rattle.bits.specs.MarginRows.{Room}
use base.Stored.{coded_sub}
use Rattle.fields.specs.declared.numbers.field.TheConstants.{FIELDS}
use Rattle.fields.specs.numbers.Spans.{SpanSet, has}
use Rattle.classify.specs.steps.Pieces.{IsRising, IsRisingFrom, Differ, EachRow, row_bits}

-- ---- Where pieces start, as they are kept: numbers in two parts.

-- there are 2 to the 32 at most, and those of the second part need more than 32 bits
pub record AreParted (narrow wide : List ℕ) : Type 0 where
  pub few : length narrow + length wide ≤ 2 ^ 32
  pub long : All (λ x. 2 ^ 32 ≤ x) wide

-- ---- A line as it is stored.

-- the greatest number that a piece may start at
abbrev pub most_start : ℕ
most_start = 2 ^ 128 - 1

-- the pieces rise from 0, each row has as many bits as the first, and these bits with the room for more fill whole words
pub record IsLine (pieces : List (ℕ × List Bool)) (places : ℕ) : Type 0 where
  pub rising : IsRising most_start pieces
  pub rows : EachRow (row_bits pieces) pieces
  pub whole : (row_bits pieces + places) % 64 ≡ 0

-- what a line shows: where each piece starts, with its row; and the room of each row for more bits
pub record PiecesAndRoom : Type 0 where
  pub pieces : List (ℕ × List Bool)
  pub room : Room
  pub stands : IsLine pieces room.places

-- a line as it stands between edits: no piece starts above the top, no two neighbours are equal, and each row has so many bits
pub record IsSound (top n : ℕ) (line : PiecesAndRoom) : Type 0 where
  pub rising : IsRising top line.pieces
  pub differ : Differ line.pieces
  pub bits : row_bits line.pieces ≡ n

-- ---- a line has one proof that it is one, since each part of that has one

-- an equation of numbers
equal_prop : (a b : ℕ) → IsProp (a ≡ b)
equal_prop a b = Coded-set coded_ℕ a b

-- that pieces rise, after a number
rising_from_prop : (top a : ℕ) (ps : List (ℕ × List Bool)) → IsProp (IsRisingFrom top a ps)
rising_from_prop top a [] = Unit-prop
rising_from_prop top a (p ∷ ps) = λ g h i. (le_prop g.0 h.0 i, le_prop g.1 h.1 i, rising_from_prop top p.0 ps g.2 h.2 i)

-- that they rise from 0
rising_prop : (top : ℕ) (line : List (ℕ × List Bool)) → IsProp (IsRising top line)
rising_prop top [] = λ h _. absurd h
rising_prop top (p ∷ ps) = ×_prop (equal_prop p.0 0) (rising_from_prop top 0 ps)

-- that each row has so many bits
each_row_prop : (n : ℕ) (line : List (ℕ × List Bool)) → IsProp (EachRow n line)
each_row_prop n [] = Unit-prop
each_row_prop n (p ∷ ps) = ×_prop (equal_prop (length p.1) n) (each_row_prop n ps)

-- that pieces and places are a line: all three parts of it
pub line_prop : (pieces : List (ℕ × List Bool)) (places : ℕ) → IsProp (IsLine pieces places)
line_prop pieces places = λ g h i.
    record {
      rising = rising_prop most_start pieces g.rising h.rising i;
      rows = each_row_prop (row_bits pieces) pieces g.rows h.rows i;
      whole = equal_prop ((row_bits pieces + places) % 64) 0 g.whole h.whole i;
    }

-- how pieces and a room are stored
abbrev data_code : Coded (List (ℕ × List Bool) × (ℕ × ℕ))
data_code = coded× (coded_list (coded× coded_ℕ (coded_list coded_bool))) (coded× coded_ℕ coded_ℕ)

-- how a line is encoded: as its pieces and its room
abbrev pub line_code : Coded PiecesAndRoom
line_code =
    code_by ((d : List (ℕ × List Bool) × (ℕ × ℕ)) × IsLine d.0 d.1.0) (coded_sub data_code (λ d. IsLine d.0 d.1.0) (λ d. line_prop d.0 d.1.0)) (λ l. ((l.pieces, (l.room.places, l.room.before)), l.stands))
    (λ p. record { pieces = p.0.0; room = record { places = p.0.1.0; before = p.0.1.1 }; stands = p.1 }) (λ _. refl)

-- ---- Whole lines, which a search leaves out.

-- each row of a line has every bit
abbrev pub IsWhole : PiecesAndRoom → Type 0
IsWhole line = All (λ (p : ℕ × List Bool). All (λ (bit : Bool). bit ≡ true) p.1) line.pieces

-- each line that is marked is whole
abbrev pub AreMarked : List Bool → List PiecesAndRoom → Type 0
AreMarked marks lines = (k : ℕ) (l : PiecesAndRoom) → k < length lines → slice_index_or marks k false ≡ true → IsWhole (slice_index_or lines k l)

-- a number stands in a list
abbrev pub IsAmong : List ℕ → ℕ → Type 0
IsAmong numbers k = (i : ℕ) × (i < length numbers) × (slice_index numbers i ≡ k)

-- places of lines, and among them that of each of the first lines that isn't marked
pub record AreUnmarked (marks : List Bool) (upto : ℕ) (places : List ℕ) : Type 0 where
  pub few : length places ≤ upto
  pub fields : All (λ k. k < FIELDS) places
  pub every : (k : ℕ) → k < upto → slice_index_or marks k false ≡ false → IsAmong places k

-- places of lines, at least one, and among them that of each line that isn't marked
pub record AreOthers (marks : List Bool) (places : List ℕ) : Type 0 where
  pub some : 0 < length places
  pub few : length places ≤ FIELDS
  pub fields : All (λ k. k < FIELDS) places
  pub every : (k : ℕ) → k < FIELDS → slice_index_or marks k false ≡ false → IsAmong places k

-- a set has every number up to its top
abbrev pub IsEverything : SpanSet → Type 0
IsEverything s = (x : ℕ) → x ≤ s.top → has s.intervals x ≡ true
