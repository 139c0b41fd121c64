-- Lines of bytes: texts that stand in one line, and what a call that reads a line takes.
use Rattle.std.specs.Prelude.{◌≢◌, ℕ, ◌==◌, Bool, not, List, All, ◌≡◌, ◌+◌, ◌<◌, ◌≤◌, [], ◌∷◌, ◌++◌, length, Result, Ok, Err, Option, Some, None, OnSome, if◌then◌else◌}
use Rattle.std.specs.List.{list_all}
use Rattle.std.specs.Bool.{MatchBool}
use Rattle.std.specs.Io.KnownBytes.{Consumes, IsAtEnd}
use Rattle.fields.specs.declared.text.line.LineEnd.{LineEnd}
use Rattle.fields.specs.declared.text.line.LineRead.{LineRead}
use Rattle.fields.specs.declared.text.line.LineEnd.TheVariants as ends

-- ---- Texts that stand in one line.

-- no byte is a newline (10)
abbrev pub IsOneLine : List ℕ → Type 0
IsOneLine text = All (λ byte. byte ≢ 10) text

-- the test of it
abbrev pub is_one_line : List ℕ → Bool
is_one_line text = list_all (λ byte. not (byte == 10)) text

-- no text has a newline
abbrev pub AreOneLine : List (List ℕ) → Type 0
AreOneLine texts = All IsOneLine texts

-- ---- Lines of bytes, and what a call that reads a line takes of them.

-- the text is held whole, or the flag says that it has more than `max` bytes
abbrev pub IsHeld : ℕ → List ℕ → List ℕ → Bool → Type 0
IsHeld max text items too_long = MatchBool too_long (max < length text) (items ≡ text)

-- the bytes left in the reader, where they are known, have come to their end
abbrev pub EndsAt : Option (List ℕ) → Option (List ℕ) → Type 0
EndsAt old new = OnSome old (IsAtEnd new)

-- what was taken from the reader, where that is known: a line and its newline; a last line without a newline, which isn't empty; or
-- nothing, at the end of the input
abbrev pub TakesLine : Option (List ℕ) → Option (List ℕ) → LineEnd → List ℕ → Type 0
TakesLine old new ends.Newline text = Consumes old new (text ++ 10 ∷ [])
TakesLine old new ends.Input text = (0 < length text) × Consumes old new text × EndsAt old new
TakesLine old new ends.Nothing text = (text ≡ []) × Consumes old new [] × EndsAt old new

-- this line was read, in at most one step a byte and one more; or the reader failed after this part of it
abbrev pub LineOf : {E : Type 0} → Option (List ℕ) → Option (List ℕ) → ℕ → ℕ → ℕ → List ℕ → Result LineRead E → List ℕ → Type 0
LineOf old new turns left max items (Ok read) text =
    IsHeld max text items read.too_long × TakesLine old new read.end text × (turns ≤ left + (length text + 1))
LineOf old new turns left max items (Err e) text = Consumes old new text

-- a line was read, or the reader failed within one; `left` and `turns` count the steps that the reader had left before and after
abbrev pub ReadsLine : {E : Type 0} → Option (List ℕ) → Option (List ℕ) → ℕ → ℕ → ℕ → List ℕ → Result LineRead E → Type 0
ReadsLine old new turns left max items r = (text : List ℕ) × IsOneLine text × LineOf old new turns left max items r text

-- a part of a line was read, in at most one step a byte, and is held
abbrev pub ReadsPart : Option (List ℕ) → Option (List ℕ) → ℕ → ℕ → ℕ → List ℕ → Bool → Type 0
ReadsPart old new turns left max items too_long =
    (text : List ℕ) × IsOneLine text × IsHeld max text items too_long × Consumes old new text × (turns ≤ left + length text)

-- a line was read on: there is more of it to come, it was read to its end, or the reader failed
abbrev pub ReadsOn : {E : Type 0} → Option (List ℕ) → Option (List ℕ) → ℕ → ℕ → ℕ → List ℕ → Bool → Result (Option LineRead) E → Type 0
ReadsOn old new turns left max items too_long (Ok None) = ReadsPart old new turns left max items too_long
ReadsOn {E} old new turns left max items too_long (Ok (Some read)) = ReadsLine {E = E} old new turns left max items (Ok read)
ReadsOn old new turns left max items too_long (Err e) = ReadsLine old new turns left max items (Err e)

-- the byte put before the bytes of the first line
abbrev pub onto_first : ℕ → List (List ℕ) → List (List ℕ)
onto_first b [] = (b ∷ []) ∷ []
onto_first b (l ∷ ls) = (b ∷ l) ∷ ls

-- the lines of some bytes: a newline (10) ends a line, and the last line may lack it
abbrev pub lines_of : List ℕ → List (List ℕ)
lines_of [] = []
lines_of (b ∷ bs) = if b == 10 then [] ∷ lines_of bs else onto_first b (lines_of bs)

-- the byte put before the bytes of the first line, if there is a line
abbrev pub onto_ended : ℕ → List (List ℕ) → List (List ℕ)
onto_ended b [] = []
onto_ended b (l ∷ ls) = (b ∷ l) ∷ ls

-- the lines that a newline ends, without what follows the last newline
abbrev pub ended_lines : List ℕ → List (List ℕ)
ended_lines [] = []
ended_lines (b ∷ bs) = if b == 10 then [] ∷ ended_lines bs else onto_ended b (ended_lines bs)
