-- How the code takes a line part by part and cuts it into words: byte after byte, with the words so far and the present word.
use Rattle.std.specs.Prelude.{◌≡◌, ℕ, ◌<◌, Bool, List, [], ◌∷◌, ◌++◌, length, Result, Ok, Err, Option, ◌≤◌, true, false, All, drop, MatchResult, Some, None, option_and_then}
use Rattle.std.specs.Io.KnownBytes.{Consumes}
use Rattle.std.specs.Borrow.{Bor}
use Rattle.fields.specs.text.Line.{IsOneLine, IsHeld, EndsAt}
use Rattle.fields.specs.declared.text.line.LineEnd.{LineEnd}
use Rattle.fields.specs.declared.text.line.LineStep.{LineStep}
use Rattle.fields.specs.text.Words.{words_to, Transition, transition_of, is_bare, OnQuoting}
use Rattle.fields.specs.declared.text.cutting.Transition.{Transition as CodeTransition}
use Rattle.fields.specs.declared.text.cutting.State.{State}
use Rattle.fields.specs.declared.text.cutting.Cutting.{Cutting}
use Rattle.fields.specs.declared.text.words.WordFault.{WordFault}
use Rattle.fields.specs.Refusals.{GivesFor, or_refused}
use Rattle.fields.specs.declared.text.line.LineEnd.TheVariants as ends
use Rattle.fields.specs.declared.text.line.LineStep.TheVariants as steps
use Rattle.fields.specs.text.Words as line
use Rattle.fields.specs.declared.text.cutting.Transition.TheVariants as transitions
use Rattle.fields.specs.declared.text.cutting.State.TheVariants as states
use Rattle.fields.specs.declared.text.words.WordFault.TheVariants as faults

-- ---- A line taken step by step.

-- what held a text holds it with this part after it
abbrev pub HoldsMore : ℕ → List ℕ → List ℕ → Bool → List ℕ → Bool → Type 0
HoldsMore max part items too_long items' too_long' =
    (text : List ℕ) → IsHeld max text items too_long → IsHeld max (text ++ part) items' too_long'

-- the bytes that a step took from the reader, where they are known: a part of a line, perhaps with its newline
abbrev pub TakenBy : {E : Type 0} → Option (List ℕ) → Option (List ℕ) → Result LineStep E → List ℕ → Type 0
TakenBy old new (Ok steps.More) part = (0 < length part) × Consumes old new part
TakenBy old new (Ok steps.Newline) part = Consumes old new (part ++ 10 ∷ [])
TakenBy old new (Ok steps.End) part = (part ≡ []) × Consumes old new [] × EndsAt old new
TakenBy old new (Err e) part = (part ≡ []) × Consumes old new []

-- a step took a part of a line, and holds it with the rest
abbrev pub TakesPart : {E : Type 0} → Option (List ℕ) → Option (List ℕ) → Result LineStep E → ℕ → List ℕ → Bool → List ℕ → Bool → Type 0
TakesPart old new r max items too_long items' too_long' =
    (part : List ℕ) × IsOneLine part × HoldsMore max part items too_long items' too_long' × TakenBy old new r part

-- the text is the last one, or there was none
abbrev pub IsLast : List ℕ → LineEnd → Type 0
IsLast text ends.Newline = ⊥
IsLast text ends.Input = 0 < length text
IsLast text ends.Nothing = text ≡ []

-- ---- How the code cuts a line into words: byte after byte, with the words so far and the present word.

-- the state for which a state of the code stands
abbrev pub view_state : State → line.State
view_state states.Between = line.Between
view_state states.Bare = line.Bare
view_state states.Quoted = line.Quoted
view_state states.Escaped = line.Escaped
view_state states.Closed = line.Closed

-- the transition for which one of the code stands
abbrev pub view_transition : CodeTransition → Transition
view_transition (transitions.Skips next) = line.Skips (view_state next)
view_transition (transitions.Joins next) = line.Joins (view_state next)
view_transition (transitions.Ends next) = line.Ends (view_state next)
view_transition transitions.Breaks = line.Breaks

-- the place where the last word ends, or the one where the first begins
abbrev pub last_end : ℕ → List ℕ → ℕ
last_end from [] = from
last_end from (end ∷ ends) = last_end end ends

-- the words so far, the present word, and where the next byte stands
pub record Cut : Type 0 where
  pub words : List (List ℕ)
  pub word : List ℕ
  pub state : line.State

-- the cut that the code's state stands for
abbrev pub view_cutting : Cutting → Cut
view_cutting cutting =
    let bytes = cutting.bytes.items in
    let ends = cutting.ends.items in
    record { words = words_to bytes 0 ends; word = drop (last_end 0 ends) bytes; state = view_state cutting.state }

-- the cut with some bytes more in the present word
abbrev pub joined : List ℕ → Cut → Cut
joined bytes cut = record { words = cut.words; word = cut.word ++ bytes; state = cut.state }

-- the cut with the present word ended
abbrev pub ended : Cut → Cut
ended cut = record { words = cut.words ++ cut.word ∷ []; word = []; state = cut.state }

-- the cut with the next byte standing elsewhere
abbrev pub placed : line.State → Cut → Cut
placed state cut = record { words = cut.words; word = cut.word; state = state }

-- the cut after a byte that does this
abbrev pub cut_by : Transition → ℕ → Cut → Option Cut
cut_by (line.Skips next) byte cut = Some (placed next cut)
cut_by (line.Joins next) byte cut = Some (placed next (joined (byte ∷ []) cut))
cut_by (line.Ends next) byte cut = Some (placed next (ended cut))
cut_by line.Breaks byte cut = None

-- the cut after a byte; nothing where the quoting is bad
unfoldable pub after : Cut → ℕ → Option Cut
after cut byte = cut_by (transition_of cut.state byte) byte cut

-- the words at the end of the line, where the next byte would stand here
abbrev pub words_at : line.State → Cut → Option (List (List ℕ))
words_at line.Between cut = Some cut.words
words_at line.Bare cut = Some (cut.words ++ cut.word ∷ [])
words_at line.Quoted cut = None
words_at line.Escaped cut = None
words_at line.Closed cut = Some cut.words

-- the words at the end of the line; nothing where the quoting is bad
unfoldable pub at_line_end : Cut → Option (List (List ℕ))
at_line_end cut = words_at cut.state cut

-- the words of the cut and of the bytes that follow
abbrev pub cut_from : Cut → List ℕ → Option (List (List ℕ))
cut_from cut [] = at_line_end cut
cut_from cut (byte ∷ bytes) = option_and_then (λ next. cut_from next bytes) (after cut byte)

-- before the first byte
abbrev pub start : Cut
start = record { words = []; word = []; state = line.Between }

-- the refusal that a fault stands for, if it is no lack of memory
abbrev pub refusal_of : WordFault → Option WordFault
refusal_of faults.Quoting = Some faults.Quoting
refusal_of faults.NoMemory = None

-- the call's value, seen through `view`, is what is wanted; bad quoting is reported only where nothing is wanted, and memory may
-- run out
abbrev pub Gives : {X Y : Type 0} → (X → Y) → Result X WordFault → Option Y → Type 0
Gives view result wanted = GivesFor refusal_of view result (or_refused faults.Quoting wanted)

-- this holds, or the call failed because memory ran out
abbrev pub UnlessNoMemory : {X : Type 0} → Result X WordFault → Type 0 → Type 0
UnlessNoMemory result P = MatchResult result (λ _. P) (λ fault. fault ≡ faults.NoMemory)

-- fewer bytes are left, and the words in the end are the same; bad quoting is reported only where there are none
abbrev pub Advances : Cut → List ℕ → Cut → Result (Bor (List ℕ)) WordFault → Type 0
Advances old bytes new result =
    MatchResult result (λ left. (length left.now < length bytes) × (cut_from old bytes ≡ cut_from new left.now))
    (λ fault. OnQuoting fault (cut_from old bytes ≡ None))

-- no more bytes are left than before, and the words in the end are the same, unless memory ran out
abbrev pub Continues : Cut → List ℕ → Cut → Result (Bor (List ℕ)) WordFault → Type 0
Continues old bytes new result =
    MatchResult result (λ left. (length left.now ≤ length bytes) × (cut_from old bytes ≡ cut_from new left.now)) (λ fault. fault ≡ faults.NoMemory)

-- an unquoted word begins or goes on at a byte that stands there
abbrev pub is_unquoted : line.State → Bool
is_unquoted line.Between = true
is_unquoted line.Bare = true
is_unquoted line.Quoted = false
is_unquoted line.Escaped = false
is_unquoted line.Closed = false

-- no byte of the run ends an unquoted word
abbrev pub IsRun : List ℕ → Type 0
IsRun run = All (λ byte. is_bare byte ≡ true) run
