-- The lines of all fields at once, each at its field's place.
use Rattle.std.specs.Prelude.{◌≡◌, ℕ, ◌+◌, ◌*◌, ◌^◌, ◌-◌, ◌≤◌, ◌<◌, min, Bool, List, [], ◌∷◌, map, length, slice_index, slice_index_or, slice_set, insert, remove}
use Rattle.bits.specs.MarginRows.{closed_up}
use Rattle.bits.specs.Rows.{two_words}
use Rattle.fields.specs.declared.numbers.field.TheConstants.{FIELDS}
use Rattle.fields.specs.declared.numbers.spans.Interval.{Interval}
use Rattle.fields.specs.numbers.Field.{all_fields, top}
use Rattle.fields.specs.numbers.Spans.{SpanSet, has}
use Rattle.classify.specs.Classifier.{Classified}
use Rattle.classify.specs.Line.{IsLineOf}
use Rattle.classify.specs.steps.Pieces.{CutsStart, IsApart, IsRising, IsSplitOf, Differ, row_bits}
use Rattle.classify.specs.steps.Edits.{IsMergeOf, Says}
use Rattle.classify.specs.steps.Kept.{PiecesAndRoom, IsSound}

-- the cuts and rows of a line
abbrev pub shown_line : PiecesAndRoom → List (ℕ × List Bool)
shown_line l = l.pieces

-- what so many boxes with these lines show
abbrev pub shown_by : ℕ → List PiecesAndRoom → Classified
shown_by len lines = record { len = len; lines = map shown_line lines }

-- the tops of the fields, in their order
unfoldable pub tops : List ℕ
tops = map top all_fields

-- the most boxes of a classifier, so that a row's length is a `usize`
abbrev pub most_boxes : ℕ
most_boxes = 64 * (2 ^ 58 - 1)

-- all lines have the same number of blank places before their rows
abbrev pub HaveOneMargin : List PiecesAndRoom → Type 0
HaveOneMargin lines =
    (j k : ℕ) (l : PiecesAndRoom) → j < length lines → k < length lines → (slice_index_or lines j l).room.before ≡ (slice_index_or lines k l).room.before

-- the lines of so many boxes as they stand between edits
pub record IsKept (len : ℕ) (lines : List PiecesAndRoom) : Type 0 where
  pub few : len ≤ most_boxes
  pub fields : length lines ≡ FIELDS
  pub sound : (k : ℕ) (l : PiecesAndRoom) → k < length lines → IsSound (slice_index tops k) len (slice_index_or lines k l)
  pub margin : HaveOneMargin lines

-- the least room of some lines, but at most n
unfoldable pub room_of_lines : ℕ → List PiecesAndRoom → ℕ
room_of_lines n [] = n
room_of_lines n (l ∷ ls) = min l.room.places (room_of_lines n ls)

-- how many boxes can be added before a row has to grow, within the greatest number of boxes
abbrev pub room_beside : ℕ → List PiecesAndRoom → ℕ
room_beside len lines = room_of_lines (most_boxes - len) lines

-- P holds of each line
abbrev pub EachLine : (PiecesAndRoom → Type 0) → List PiecesAndRoom → Type 0
EachLine P lines = (k : ℕ) (l : PiecesAndRoom) → k < length lines → P (slice_index_or lines k l)

-- R holds of each line before and after
abbrev pub EachEdit : (PiecesAndRoom → PiecesAndRoom → Type 0) → List PiecesAndRoom → List PiecesAndRoom → Type 0
EachEdit R old new = (k : ℕ) (l : PiecesAndRoom) → k < length old → R (slice_index_or old k l) (slice_index_or new k l)

-- each line shows what it showed before
abbrev pub ShowTheSame : List PiecesAndRoom → List PiecesAndRoom → Type 0
ShowTheSame = EachEdit (λ l m. m.pieces ≡ l.pieces)

-- each line is that of no box at all
abbrev pub AreEmpty : List PiecesAndRoom → List PiecesAndRoom → Type 0
AreEmpty = EachEdit (λ _ m. m.pieces ≡ (0, []) ∷ [])

-- each line stands in R to its field's set and to the line of its field before
abbrev pub EachField : (SpanSet → PiecesAndRoom → PiecesAndRoom → Type 0) → List SpanSet → List PiecesAndRoom → List PiecesAndRoom → Type 0
EachField R sets old new =
    (k : ℕ) (s : SpanSet) (l : PiecesAndRoom) → k < length old → R (slice_index_or sets k s) (slice_index_or old k l) (slice_index_or new k l)

-- P holds of each line and its field's set
abbrev pub OnEach : (SpanSet → PiecesAndRoom → Type 0) → List SpanSet → List PiecesAndRoom → Type 0
OnEach P sets lines = EachField (λ s l _. P s l) sets lines lines

-- the pieces rise from 0 up to the set's top
abbrev pub Rises : SpanSet → PiecesAndRoom → Type 0
Rises s l = IsRising s.top l.pieces

-- pieces start where the set begins or ends
abbrev pub HasCuts : SpanSet → PiecesAndRoom → Type 0
HasCuts s l = CutsStart s.top s.intervals l.pieces

-- pieces start only where the row changes, or the set begins or ends
abbrev pub HasOnlyCuts : SpanSet → PiecesAndRoom → Type 0
HasOnlyCuts s l = IsApart s.intervals l.pieces

-- where pieces start wherever the set begins or ends, the pieces stay as they are
abbrev pub IsKeptWithCuts : SpanSet → PiecesAndRoom → PiecesAndRoom → Type 0
IsKeptWithCuts s l m = HasCuts s l → m.pieces ≡ l.pieces

-- no room is lost, and the margin is the same
pub record KeepsRoom (l m : PiecesAndRoom) : Type 0 where
  pub more : l.room.places ≤ m.room.places
  pub before : m.room.before ≡ l.room.before

-- the room is the same
abbrev pub HasSameRoom : PiecesAndRoom → PiecesAndRoom → Type 0
HasSameRoom l m = m.room ≡ l.room

-- the same line, with no less room
pub record IsRoomier (l m : PiecesAndRoom) : Type 0 where
  pub same : m.pieces ≡ l.pieces
  pub room : KeepsRoom l m

-- at most the room of one bit is used
abbrev pub UsesRoom : PiecesAndRoom → PiecesAndRoom → Type 0
UsesRoom l m = l.room.places ≤ m.room.places + 1

-- each row has room for one bit more than before
abbrev pub FreesRoom : PiecesAndRoom → PiecesAndRoom → Type 0
FreesRoom l m = m.room.places ≡ l.room.places + 1

-- each row has the room that it had and room for all bits that it had, and no margin
pub record FreesAll (l m : PiecesAndRoom) : Type 0 where
  pub places : m.room.places ≡ l.room.places + row_bits l.pieces
  pub before : m.room.before ≡ 0

-- each row has room for so many more bits after its last one
abbrev pub HasRoomAfter : ℕ → PiecesAndRoom → Type 0
HasRoomAfter bits l = bits ≤ l.room.places - l.room.before

-- to insert a bit at a place no memory is taken where there is room after the rows, where the margin has two words, or where the
-- bit goes in first and the margin has one place
pub record TakesNoneBeside (at : ℕ) (l m : PiecesAndRoom) : Type 0 where
  pub after : HasRoomAfter 1 l → m.room ≡ l.room
  pub blank : two_words ≤ l.room.before → m.room ≡ l.room
  pub first : at ≡ 0 → 0 < l.room.before → m.room ≡ l.room

-- the same line, with a margin that is wider by two words
pub record IsOpenedUp (l m : PiecesAndRoom) : Type 0 where
  pub same : m.pieces ≡ l.pieces
  pub places : m.room.places ≡ l.room.places
  pub before : m.room.before ≡ l.room.before + two_words

-- the same line with a margin made narrower, if it had one; if there is room at all, there is now room after the rows
pub record IsClosedUp (l m : PiecesAndRoom) : Type 0 where
  pub same : m.pieces ≡ l.pieces
  pub places : m.room.places ≡ l.room.places
  pub before : m.room.before ≡ closed_up l.room.before
  pub after : 0 < l.room.places → HasRoomAfter 1 m

-- a line as it stands between edits, with so many bits a row
abbrev pub Stands : ℕ → SpanSet → PiecesAndRoom → Type 0
Stands n s l = IsSound s.top n l

-- the line with more cuts, where the set begins or ends
abbrev pub IsCutMore : SpanSet → PiecesAndRoom → PiecesAndRoom → Type 0
IsCutMore s l m = IsSplitOf s.top s.intervals l.pieces m.pieces

-- the line with equal neighbours joined
abbrev pub IsJoinedUp : SpanSet → PiecesAndRoom → PiecesAndRoom → Type 0
IsJoinedUp s l m = IsMergeOf s.top l.pieces m.pieces

-- a set is inserted at a place: if the old line is that of some sets, the new line is that of these with it
abbrev pub InsertsSet : ℕ → SpanSet → PiecesAndRoom → PiecesAndRoom → Type 0
InsertsSet at s l m =
    (sets : List (List Interval)) → IsLineOf has s.top sets l.pieces → IsLineOf has s.top (insert sets at s.intervals) m.pieces

-- a set replaces another: if the old line is that of some sets, the new line is that of these with it
abbrev pub ReplacesSet : ℕ → SpanSet → PiecesAndRoom → PiecesAndRoom → Type 0
ReplacesSet at s l m =
    (sets : List (List Interval)) → IsLineOf has s.top sets l.pieces
    → IsLineOf has s.top (slice_set sets at s.intervals) m.pieces

-- the pieces rise from 0 up to the set's top, and start wherever the set begins or ends, and else only where the row changes
pub record IsCutFor (s : SpanSet) (l : PiecesAndRoom) : Type 0 where
  pub rising : Rises s l
  pub cuts : HasCuts s l
  pub apart : HasOnlyCuts s l

-- a bit that is inserted before all others takes one place of the margin, if there is one, and any other bit takes none
pub record TakesPlace (at old new : ℕ) : Type 0 where
  pub first : at ≡ 0 → new ≡ old - 1
  pub later : 0 < at → new ≡ old

-- a bit that was before all others leaves one place more in the margin when it is removed, and any other bit leaves none
pub record LeavesPlace (at old new : ℕ) : Type 0 where
  pub first : at ≡ 0 → new ≡ old + 1
  pub later : 0 < at → new ≡ old

-- a box's set is inserted at a place: if the old line says which sets have a number, the new line is that of these sets with it,
-- and its rows have one bit more
pub record TakesIn (at : ℕ) (s : SpanSet) (old new : PiecesAndRoom) : Type 0 where
  pub line : (sets : List (List Interval)) → Says s.top sets old.pieces
      → IsLineOf has s.top (insert sets at s.intervals) new.pieces
  pub sound : IsSound s.top (row_bits old.pieces + 1) new
  pub room : new.room.places + 1 ≡ old.room.places
  pub margin : TakesPlace at old.room.before new.room.before

-- nothing has to grow for the set's answers: pieces start where these change, and each row has room for a bit
pub record HasRoom (s : SpanSet) (l : PiecesAndRoom) : Type 0 where
  pub cuts : CutsStart s.top s.intervals l.pieces
  pub room : 0 < l.room.places

-- a box's set replaces another: if the old line says which sets have a number, the new line is that of these sets with it, and its
-- rows are as long
pub record TakesOver (at : ℕ) (s : SpanSet) (old new : PiecesAndRoom) : Type 0 where
  pub line : (sets : List (List Interval)) → Says s.top sets old.pieces
      → IsLineOf has s.top (slice_set sets at s.intervals) new.pieces
  pub sound : IsSound s.top (row_bits old.pieces) new
  pub room : HasSameRoom old new

-- each row has a bit at a place, and no two neighbours are equal
abbrev pub HasPlace : ℕ → PiecesAndRoom → Type 0
HasPlace at l = (at < row_bits l.pieces) × Differ l.pieces

-- a box is removed: if the old line is that of some sets, the new line is that of the others, and its rows have one bit less
pub record LosesBox (at : ℕ) (old new : PiecesAndRoom) : Type 0 where
  pub line : (top : ℕ) (sets : List (List Interval)) → IsLineOf has top sets old.pieces
      → IsLineOf has top (remove sets at) new.pieces
  pub sound : (top : ℕ) → IsRising top old.pieces → IsSound top (row_bits old.pieces - 1) new
  pub room : FreesRoom old new
  pub margin : LeavesPlace at old.room.before new.room.before
