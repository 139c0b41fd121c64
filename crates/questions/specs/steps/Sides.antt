-- The parts of a box that are outside of another box, place by place.
use Rattle.std.specs.Prelude.{◌≡◌, ◌⊎◌, ◌∷◌, ◌++◌, ℕ, ◌≤◌, ◌<◌, nat_lt, ◌==◌, ◌&&◌, not, Bool, true, false, List, [], slice_index, slice_index_or, if◌then◌else◌}
use Rattle.fields.specs.declared.numbers.field.TheConstants.{FIELDS}
use Rattle.fields.specs.declared.numbers.field.Field.{Field}
use Rattle.fields.specs.declared.packet.hook.Hook.{Hook}
use Rattle.fields.specs.numbers.Field.{top}
use Rattle.fields.specs.numbers.Spans.{SpanSet, has}
use Rattle.classify.specs.Classifier.{IsPoint}
use Rattle.questions.specs.boxes.Boxes.{Has, HasNumbers, may_have}

-- the set without a number
abbrev pub no_set : SpanSet
no_set = record { top = 0; intervals = [] }

-- whether a box has, at a place, the number there
abbrev pub has_at : List SpanSet → List ℕ → ℕ → Bool
has_at box numbers place = let own : SpanSet = slice_index_or box place no_set in has own.intervals (slice_index numbers place)

-- of a part that leaves the other box at a place: before the place it takes numbers of the other box, at the place numbers that the
-- other box lacks, and after it any
abbrev pub takes : ℕ → ℕ → Bool → Bool
takes at place there = if nat_lt place at then there else if place == at then not there else true

-- one set of the part that leaves the other box at a place
pub record IsSide (at place : ℕ) (own other side : SpanSet) : Type 0 where
  pub top : side.top ≡ own.top
  pub members : (x : ℕ) → x ≤ own.top → has side.intervals x ≡ (has own.intervals x && takes at place (has other.intervals x))

-- the part of a box that leaves the other box at a place
abbrev pub IsPart : ℕ → List SpanSet → List SpanSet → List SpanSet → Type 0
IsPart at own other part =
    (place : ℕ) (d e f : SpanSet) → place < FIELDS
    → IsSide at place (slice_index_or own place d) (slice_index_or other place e) (slice_index_or part place f)

-- a set has a number
abbrev pub HasOne : SpanSet → Type 0
HasOne set = (x : ℕ) × (x ≤ set.top) × (has set.intervals x ≡ true)

-- the numbers that packets at a hook may have on a field
pub record IsBeginning (hook : Hook) (field : Field) (set : SpanSet) : Type 0 where
  pub greatest : set.top ≡ top field
  pub members : (x : ℕ) → x ≤ top field → has set.intervals x ≡ may_have hook field x

-- the place is the first at which the box doesn't have the number
pub record LeavesAt (at : ℕ) (box : List SpanSet) (numbers : List ℕ) : Type 0 where
  pub before : (place : ℕ) → place < at → has_at box numbers place ≡ true
  pub here : has_at box numbers at ≡ false

-- no part is put on some, or one is: it has numbers, and all of them leave the box at the place
abbrev pub AddsLeaving : ℕ → List SpanSet → List (List SpanSet) → List (List SpanSet) → Type 0
AddsLeaving at box old new =
    (new ≡ old) ⊎ ((part : List SpanSet) × (new ≡ old ++ part ∷ []) × HasNumbers part
    × ((numbers : List ℕ) → IsPoint numbers → Has part numbers → LeavesAt at box numbers))
