-- Rows of equally many bits as they are held, each in a slot of words: what an edit of one row does, and how its bits move.
use Rattle.std.specs.Prelude.{◌≡◌, ◌≢◌, ℕ, ◌*◌, ◌^◌, ◌<◌, ◌≤◌, ◌==◌, Bool, false, List, [], ◌∷◌, length, take, drop, All, if◌then◌else◌, ◌++◌, insert, remove, slice_index, slice_set, ◌+◌, replicate, ◌-◌}
use Rattle.bits.specs.steps.Packing.{all_bits}
use Rattle.bits.specs.declared.sparse.Way.{Way}
use Rattle.bits.specs.declared.row_move.Move.{Move}
use Rattle.bits.specs.Rows.{two_words}
use Rattle.bits.specs.declared.sparse.Way.TheVariants as way
use Rattle.bits.specs.declared.row_move.Move.TheVariants as move

-- ---- Rows of equally many bits as they are stored: each row has a slot, and all slots have the same number of words.

-- the words in a slot
abbrev pub words_in : ℕ → List ℕ → ℕ → List ℕ
words_in width words slot = take width (drop (slot * width) words)

-- the bits of the row in a slot
abbrev pub bits_in : ℕ → ℕ → List ℕ → ℕ → List Bool
bits_in len width words slot = take len (all_bits (words_in width words slot))

-- no bit is set past the first len
abbrev pub IsPadded : List ℕ → ℕ → Type 0
IsPadded words len = All (λ (b : Bool). b ≡ false) (drop len (all_bits words))

-- each slot is below n
abbrev pub AreBelow : ℕ → List ℕ → Type 0
AreBelow n [] = Unit {0}
AreBelow n (s ∷ ss) = (s < n) × AreBelow n ss

-- a slot that is none of these
abbrev pub IsNoneOf : ℕ → List ℕ → Type 0
IsNoneOf slot [] = Unit {0}
IsNoneOf slot (s ∷ ss) = (s ≢ slot) × IsNoneOf slot ss

-- no slot is there twice
abbrev pub AreApart : List ℕ → Type 0
AreApart [] = Unit {0}
AreApart (s ∷ ss) = IsNoneOf s ss × AreApart ss

-- the first two slots, in either order
pub record AreFirstTwo (slots : List ℕ) : Type 0 where
  pub two : length slots ≡ 2
  pub below : AreBelow 2 slots
  pub apart : AreApart slots

-- rows of `len` bits, each in a slot of its own, stored in words of which each slot has `width`
pub record AreHeld (len width : ℕ) (slots words : List ℕ) : Type 0 where
  pub covers : len ≤ 64 * width
  pub few : width < 2 ^ 58
  pub counted : length slots ≤ 2 ^ 32
  pub wide : length words ≡ length slots * width
  pub below : AreBelow (length slots) slots
  pub apart : AreApart slots
  pub padded : (slot : ℕ) → slot < length slots → IsPadded (words_in width words slot) len

-- one slot in the place of another
abbrev pub redirected : ℕ → ℕ → ℕ → ℕ
redirected from to slot = if slot == from then to else slot

-- a 0 is inserted into a row's words at a place, and their highest bit is dropped
abbrev pub TakesIn : ℕ → List ℕ → List ℕ → Type 0
TakesIn at old new = (top : Bool) × (all_bits new ++ top ∷ [] ≡ insert (all_bits old) at false)

-- the bit at a place is removed from a row's words, and a 0 becomes their highest bit
abbrev pub GivesUp : ℕ → List ℕ → List ℕ → Type 0
GivesUp at old new = all_bits new ≡ remove (all_bits old) at ++ false ∷ []

-- a bit is written at a place of a row's words
abbrev pub Writes : ℕ → Bool → List ℕ → List ℕ → Type 0
Writes at bit old new = all_bits new ≡ slice_set (all_bits old) at bit

-- a bit is written at a place of the words in the first so many of some slots, and in all other slots, of `count`, they are as before
pub record AreWritten (at : ℕ) (bit : Bool) (width count upto : ℕ) (slots old new : List ℕ) : Type 0 where
  pub as_long : length new ≡ length old
  pub written : (k : ℕ) → k < upto → Writes at bit (words_in width old (slice_index slots k)) (words_in width new (slice_index slots k))
  pub others : (slot : ℕ) → slot < count → ((k : ℕ) → k < upto → slice_index slots k ≢ slot) → words_in width new slot ≡ words_in width old slot

-- R holds of the words in each slot before and after
abbrev pub EachSlot : (List ℕ → List ℕ → Type 0) → ℕ → List ℕ → List ℕ → ℕ → Type 0
EachSlot R width old new count = (slot : ℕ) → slot < count → R (words_in width old slot) (words_in width new slot)

-- ---- The words of all rows, each in a slot, and what an edit of one of them does.

-- how many slots there are, how many words each has, and the words, slot by slot
pub record WordsInSlots : Type 0 where
  pub count : ℕ
  pub width : ℕ
  pub words : List ℕ

-- equally many slots, of equally many words
pub record AreAsMany (old new : WordsInSlots) : Type 0 where
  pub count : new.count ≡ old.count
  pub width : new.width ≡ old.width
  pub as_long : length new.words ≡ length old.words

-- the words in one slot changed as R says, and those in all others are as before
pub record IsSlotChanged (R : List ℕ → List ℕ → Type 0) (slot : ℕ) (old new : WordsInSlots) : Type 0 where
  pub count : new.count ≡ old.count
  pub width : new.width ≡ old.width
  pub as_long : length new.words ≡ length old.words
  pub changed : R (words_in old.width old.words slot) (words_in old.width new.words slot)
  pub others : (other : ℕ) → other < old.count → other ≢ slot → words_in old.width new.words other ≡ words_in old.width old.words other

-- one slot more, with the words of another
pub record IsAppended (slot : ℕ) (old new : WordsInSlots) : Type 0 where
  pub count : new.count ≡ old.count + 1
  pub width : new.width ≡ old.width
  pub words : new.words ≡ old.words ++ words_in old.width old.words slot

-- one slot fewer: the words of the last one stand in a slot now
pub record IsMovedInto (slot : ℕ) (old new : WordsInSlots) : Type 0 where
  pub count : new.count + 1 ≡ old.count
  pub width : new.width ≡ old.width
  pub long : length new.words ≡ new.count * old.width
  pub moved : slot < new.count → words_in old.width new.words slot ≡ words_in old.width old.words new.count
  pub others : (other : ℕ) → other < new.count → other ≢ slot → words_in old.width new.words other ≡ words_in old.width old.words other

-- the words in each slot have as many blank words after them
pub record IsWidened (old new : WordsInSlots) : Type 0 where
  pub count : new.count ≡ old.count
  pub width : new.width ≡ 2 * old.width
  pub more : old.width < new.width
  pub few : new.width < 2 ^ 58
  pub long : length new.words ≡ new.count * new.width
  pub each : (slot : ℕ) → slot < old.count → words_in new.width new.words slot ≡ words_in old.width old.words slot ++ replicate old.width 0

-- ---- A row's bits moved from a place on, one way or the other.

-- a 0 is inserted at the place, or the bit there is removed
abbrev pub Shifts : Way → ℕ → List ℕ → List ℕ → Type 0
Shifts way.In at old new = TakesIn at old new
Shifts way.Out at old new = GivesUp at old new

-- ---- How the bits of a row move: by one from a place on, or all by two words.

-- two words without a bit are inserted before the others, and the last two are dropped
abbrev pub TakesWordsIn : List ℕ → List ℕ → Type 0
TakesWordsIn old new = all_bits new ≡ replicate two_words false ++ all_bits (take (length old - 2) old)

-- the first two words are dropped, and two without a bit follow the others
abbrev pub GivesWordsUp : List ℕ → List ℕ → Type 0
GivesWordsUp old new = all_bits new ≡ all_bits (drop 2 old) ++ replicate two_words false

-- the move is possible in so many words
abbrev pub Fits : Move → ℕ → Type 0
Fits (move.Bits how at) count = at < 64 * count
Fits (move.Words how) count = 2 ≤ count

-- what a move does to a row's words
abbrev pub Makes : Move → List ℕ → List ℕ → Type 0
Makes (move.Bits how at) old new = Shifts how at old new
Makes (move.Words way.In) old new = TakesWordsIn old new
Makes (move.Words way.Out) old new = GivesWordsUp old new
