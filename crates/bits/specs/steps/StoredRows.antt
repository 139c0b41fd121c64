-- Rows of words as they are stored and lent: of most rows a part, where all other words are blank; and some rows whole.
use Rattle.std.specs.Prelude.{ℕ, List, ◌++◌, take, replicate, ◌≡◌, ◌+◌, ◌-◌, ◌<◌, ◌≤◌, length, ◌≢◌, ◌*◌, ◌^◌, [], ◌∷◌, map, slice_index, slice_index_or, slice_set}
use Rattle.std.specs.List.{concat}
use Rattle.bits.specs.declared.row_words.RowWords.{RowWords}
use Rattle.bits.specs.declared.row_part.RowPart.{RowPart}
use Rattle.bits.specs.declared.whole_rows.Kept.{Kept}
use Rattle.bits.specs.steps.Held.{words_in}
use Rattle.bits.specs.declared.whole_rows.Kept.TheVariants as kept

-- ---- The words of a row as they are lent: a part of them, with blank words before and after it.

-- all words of a row: those before its part, the part, and as many after it as there are in all
abbrev pub words_of : RowWords → List ℕ
words_of row = take row.count (replicate row.start 0 ++ row.kept.now ++ replicate row.count 0)

-- ---- A part of a row: four of its words, where all others are blank.

-- the words of the row: blank ones, those of the part, and blank ones up to its width
abbrev pub part_row : ℕ → RowPart → List ℕ
part_row width part = replicate part.start 0 ++ part.words ++ replicate (width - (part.start + 4)) 0

-- four words within a row
pub record IsWithin (width : ℕ) (part : RowPart) : Type 0 where
  pub four : length part.words ≡ 4
  pub ends : part.start + 4 ≤ width

-- the part has the word at this place
abbrev pub HasWord : ℕ → RowPart → Type 0
HasWord place part = (part.start ≤ place) × (place < part.start + 4)

-- ---- Rows of words as they are stored: of most rows a part, where all other words are blank; and some rows whole.

-- the words of a row, where the whole rows are stored one after another
abbrev pub row_of : ℕ → List ℕ → Kept → List ℕ
row_of width wholes (kept.Part part) = part_row width part
row_of width wholes (kept.Whole i) = words_in width wholes i

-- the words of all rows
abbrev pub all_words : ℕ → List ℕ → List Kept → List ℕ
all_words width wholes ks = concat (map (row_of width wholes) ks)

-- how the row in a slot is kept
abbrev pub kept_at : List Kept → ℕ → Kept
kept_at ks slot = slice_index_or ks slot (kept.Whole 0)

-- the rows that are kept as a part, of this one: 1 or 0
abbrev pub part_count : Kept → ℕ
part_count (kept.Part part) = 1
part_count (kept.Whole i) = 0

-- of how many rows a part is kept
abbrev pub parts : List Kept → ℕ
parts [] = 0
parts (k ∷ ks) = part_count k + parts ks

-- a part is within the row, and a whole row has this slot as its owner
abbrev pub IsKept : ℕ → List ℕ → ℕ → Kept → Type 0
IsKept width owners slot (kept.Part part) = IsWithin width part
IsKept width owners slot (kept.Whole i) = (i < length owners) × (slice_index owners i ≡ slot)

-- a whole row is that of its owner
abbrev pub IsOwned : List Kept → List ℕ → ℕ → Type 0
IsOwned ks owners i = (slice_index owners i < length ks) × (kept_at ks (slice_index owners i) ≡ kept.Whole i)

-- each slot has a part of its row or a whole row of its own, and each whole row has an owner
pub record AreStored (width : ℕ) (ks : List Kept) (wholes owners : List ℕ) : Type 0 where
  pub least : 4 ≤ width
  pub few : width < 2 ^ 58
  pub long : length wholes ≡ length owners * width
  pub each : (slot : ℕ) → slot < length ks → IsKept width owners slot (kept_at ks slot)
  pub owned : (i : ℕ) → i < length owners → IsOwned ks owners i
  pub counted : length owners + parts ks ≡ length ks

-- the owners once a row as it is kept has come into another slot
abbrev pub owners_after : Kept → ℕ → List ℕ → List ℕ
owners_after (kept.Part part) slot owners = owners
owners_after (kept.Whole i) slot owners = slice_set owners i slot

-- one of the whole rows changed as R says, and no other
pub record IsRowChanged (R : List ℕ → List ℕ → Type 0) (width count i : ℕ) (old new : List ℕ) : Type 0 where
  pub as_long : length new ≡ length old
  pub changed : R (words_in width old i) (words_in width new i)
  pub others : (j : ℕ) → j < count → j ≢ i → words_in width new j ≡ words_in width old j

-- the row in a slot is a part that is kept, and each other slot has the words that it had
pub record IsFreed (width slot : ℕ) (old new : List Kept) (wholes wholes' : List ℕ) : Type 0 where
  pub as_many : length new ≡ length old
  pub part : (part : RowPart) × (kept_at new slot ≡ kept.Part part)
  pub others : (other : ℕ) → other < length old → other ≢ slot → row_of width wholes' (kept_at new other) ≡ row_of width wholes (kept_at old other)
