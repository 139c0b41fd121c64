-- Places that several rows of bits have: the rows as they are lent, their summaries, and the rows that are found at a point.
use Rattle.std.specs.Prelude.{◌≡◌, ℕ, ◌+◌, ◌<◌, ◌↔◌, bit_xor, List, length, map, slice_index, slice_index_or, [], take, All, Bool, false, true, ◌/◌, ◌*◌, ◌≤◌}
use Rattle.std.specs.List.{list_all, range_with_len}
use Rattle.std.specs.Int.{bit_at}
use Rattle.bits.specs.MarginRows.{after_margin}
use Rattle.bits.specs.TurnedRows.{turned}
use Rattle.bits.specs.declared.turned_rows.TurnedWords.{TurnedWords}
use Rattle.bits.specs.steps.Packing.{all_bits, IsPacked}
use Rattle.bits.specs.steps.Summaries.{IsSummaryOf, IsMarked}
use Rattle.bits.specs.steps.StoredRows.{words_of}
use Rattle.fields.specs.declared.numbers.field.TheConstants.{FIELDS}
use Rattle.classify.specs.steps.Edits.{row_of}
use Rattle.classify.specs.steps.Pieces.{row_in}

-- ---- Places that several rows of bits have, each row lent as its own words and those that turn them.

-- the word of a row at a place: its own, turned where the other has a bit
abbrev pub word_at : TurnedWords → ℕ → ℕ
word_at row place = bit_xor (slice_index (words_of row.own) place) (slice_index (words_of row.turn) place)

-- the bits of a row: its own, turned
abbrev pub bits_of : TurnedWords → List Bool
bits_of row = turned (all_bits (words_of row.turn)) (all_bits (words_of row.own))

-- the bits of a word are those that the words at a place of all rows have
pub record IsAndAt (word : ℕ) (rows : List TurnedWords) (place : ℕ) : Type 0 where
  pub each : (i : ℕ) → i < 64 → (bit_at word i ≡ 1) ↔ All (λ (row : TurnedWords). bit_at (word_at row place) i ≡ 1) rows

-- the same of four words from a place on
pub record AreAndsAt (lanes : List ℕ) (rows : List TurnedWords) (place : ℕ) : Type 0 where
  pub long : length lanes ≡ 4
  pub each : (j : ℕ) → j < 4 → IsAndAt (slice_index lanes j) rows (place + j)

-- a row has so many words, and as many that turn them
abbrev pub IsWide : ℕ → TurnedWords → Type 0
IsWide words row = (length (words_of row.own) ≡ words) × (length (words_of row.turn) ≡ words)

-- each row has so many words
abbrev pub AreWide : ℕ → List TurnedWords → Type 0
AreWide words rows = All (IsWide words) rows

-- each row has the bit at a place
abbrev pub HaveAll : List TurnedWords → ℕ → Type 0
HaveAll rows place = All (λ (row : TurnedWords). slice_index_or (bits_of row) place false ≡ true) rows

-- whether each row has the bit at a place
abbrev pub all_have : List TurnedWords → ℕ → Bool
all_have rows place = list_all (λ (row : TurnedWords). slice_index_or (bits_of row) place false) rows

-- the bits that rows have in common, as many as they have
abbrev pub common_bits : ℕ → List TurnedWords → List Bool
common_bits len rows = map (all_have rows) (range_with_len 0 len)

-- a row's own words and those that turn them have so many bits
pub record ArePacked (len : ℕ) (row : TurnedWords) : Type 0 where
  pub own : IsPacked (words_of row.own) len
  pub turn : IsPacked (words_of row.turn) len

-- the row, after a margin, has these bits, and its summary is theirs
pub record IsRowOf (margin : ℕ) (bits : List Bool) (row : TurnedWords) : Type 0 where
  pub packed : ArePacked (margin + length bits) row
  pub has : take (margin + length bits) (bits_of row) ≡ after_margin margin bits
  pub summed : IsSummaryOf row.summary (after_margin margin bits)

-- so many rows, after a margin, each with the bits at its place in a list
pub record AreRowsOf (margin : ℕ) (found : List (List Bool)) (upto : ℕ) (rows : List TurnedWords) : Type 0 where
  pub long : length rows ≡ upto
  pub each : (i : ℕ) (d : TurnedWords) → i < upto → IsRowOf margin (slice_index_or found i []) (slice_index_or rows i d)

-- ---- Summaries of the rows of several fields: which of their words a search may pass over.

-- the summary has the bit of each of the first words in which all rows have a bit at the same place
abbrev pub SumUpAll : ℕ → ℕ → List TurnedWords → Type 0
SumUpAll summary words rows = (p : ℕ) → p < 64 * words → HaveAll rows p → IsMarked summary (p / 64)

-- the summary has the bits of just those words that the summaries of all rows have
abbrev pub IsOfAll : ℕ → List TurnedWords → Type 0
IsOfAll summary rows = (word : ℕ) → All (λ (row : TurnedWords). IsMarked row.summary word) rows ↔ IsMarked summary word

-- rows of so many bits, at least one, and a summary with the bit of each word in which all of them have a bit at the same place
pub record AreCandidates (len summary : ℕ) (rows : List TurnedWords) : Type 0 where
  pub some : 0 < length rows
  pub packed : All (ArePacked len) rows
  pub summed : (p : ℕ) → p < len → HaveAll rows p → IsMarked summary (p / 64)

-- ---- The pieces that are found on some lines at a point, and what their rows have in common.

-- at each of so many places, whether all of these rows have the bit
abbrev pub in_common : ℕ → List (List Bool) → List Bool
in_common len rows = map (λ p. list_all (λ (row : List Bool). slice_index_or row p false) rows) (range_with_len 0 len)

-- the line of the i-th of these fields
abbrev pub line_of_field : List (List (ℕ × List Bool)) → List ℕ → ℕ → List (ℕ × List Bool)
line_of_field lines fields i = slice_index_or lines (slice_index fields i) []

-- on the line of each of these fields, the row of the piece at its place
abbrev pub rows_found : List (List (ℕ × List Bool)) → List ℕ → List ℕ → List (List Bool)
rows_found lines fields places = map (λ i. row_of (line_of_field lines fields i) (slice_index places i)) (range_with_len 0 (length fields))

-- there are fields, at least one, and on the line of each a piece at its place
pub record AreFound (lines : List (List (ℕ × List Bool))) (fields places : List ℕ) : Type 0 where
  pub some : 0 < length fields
  pub few : length fields ≤ FIELDS
  pub among : All (λ k. k < FIELDS) fields
  pub within : (i : ℕ) → i < length fields → slice_index places i < length (line_of_field lines fields i)

-- on the line of the i-th of these fields, the piece at a place is the one that the point's number is in
pub record IsAtPoint (lines : List (List (ℕ × List Bool))) (point fields : List ℕ) (i place : ℕ) : Type 0 where
  pub within : place < length (line_of_field lines fields i)
  pub here : row_of (line_of_field lines fields i) place ≡ row_in (line_of_field lines fields i) (slice_index point (slice_index fields i))

-- the same of the first of them, as far as a place, each with its piece
abbrev pub AreAtPoint : List (List (ℕ × List Bool)) → List ℕ → List ℕ → List ℕ → ℕ → Type 0
AreAtPoint lines point fields places upto = (i : ℕ) → i < upto → IsAtPoint lines point fields i (slice_index places i)
