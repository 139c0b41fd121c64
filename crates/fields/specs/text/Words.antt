-- The words of a command line: what they are and how they are quoted (iptables-restore(8)), how they are found, and how they lie one after
-- another in one list of bytes.
use Rattle.std.specs.Prelude.{◌≡◌, ◌≢◌, ℕ, Bool, not, ◌&&◌, ◌||◌, ◌==◌, ◌⊎◌, IsTrue, List, [], ◌∷◌, ◌++◌, Option, Some, None, if◌then◌else◌, ◌-◌, nat_le, take, drop}
use Rattle.std.specs.List.{list_all}
use Rattle.std.specs.Option.{option_map}
use Rattle.fields.specs.declared.text.words.WordFault.{WordFault}
use Rattle.fields.specs.declared.text.words.WordFault.TheVariants.{Quoting, NoMemory}

-- ---- The words of a command line, and how they are quoted (iptables-restore(8)): first what they are (`AreWords`), then how they are
-- found (`words_of`).

-- a blank (32) or a tab (9)
abbrev pub is_blank : ℕ → Bool
is_blank byte = byte == 32 || byte == 9

-- only blanks and tabs
abbrev pub AreBlanks : List ℕ → Type 0
AreBlanks bytes = IsTrue (list_all is_blank bytes)

-- a byte of an unquoted word: no blank, tab, `"` or newline (10)
abbrev pub is_bare : ℕ → Bool
is_bare byte = not (is_blank byte) && not (byte == 34) && not (byte == 10)

-- between quotes a byte stands for itself unless it is `"` or a backslash, and any byte stands for itself after a backslash; a
-- newline is never allowed
abbrev pub IsQuotedByte : List ℕ → ℕ → Type 0
IsQuotedByte text byte = (byte ≢ 10) × (((text ≡ byte ∷ []) × (byte ≢ 34) × (byte ≢ 92)) ⊎ (text ≡ 92 ∷ byte ∷ []))

-- the text between quotes spells the bytes of the word, one after another
abbrev pub IsQuotedText : List ℕ → List ℕ → Type 0
IsQuotedText text [] = text ≡ []
IsQuotedText text (byte ∷ word) =
    (first further : List ℕ) × (text ≡ first ++ further) × IsQuotedByte first byte × IsQuotedText further word

-- an unquoted word is spelled as itself: one or more bytes without blank, tab, `"` and newline
abbrev pub IsBareSpelling : List ℕ → List ℕ → Type 0
IsBareSpelling spelling word = (spelling ≡ word) × (word ≢ []) × IsTrue (list_all is_bare word)

-- a quoted word is spelled as `"`, a text, `"`
abbrev pub IsQuotedSpelling : List ℕ → List ℕ → Type 0
IsQuotedSpelling spelling word = (text : List ℕ) × (spelling ≡ 34 ∷ (text ++ 34 ∷ [])) × IsQuotedText text word

-- a word is spelled with or without quotes
abbrev pub IsSpelling : List ℕ → List ℕ → Type 0
IsSpelling spelling word = IsBareSpelling spelling word ⊎ IsQuotedSpelling spelling word

-- a word may end here: at the end of the line, or before a blank or a tab
abbrev pub EndsWord : List ℕ → Type 0
EndsWord [] = Unit {0}
EndsWord (byte ∷ bytes) = IsTrue (is_blank byte)

-- the line is the spellings of these words, with one or more blanks or tabs between two, and any number of them at either end
abbrev pub AreWords : List (List ℕ) → List ℕ → Type 0
AreWords [] line = AreBlanks line
AreWords (word ∷ words) line =
    (gap spelling rest : List ℕ) × (line ≡ gap ++ (spelling ++ rest)) × AreBlanks gap × IsSpelling spelling word × EndsWord rest
    × AreWords words rest

-- where a byte of a line stands: between two words, in an unquoted word, between the quotes of a word, after a backslash there, or
-- after the closing quote
pub data State : Type 0 where
  Between : State
  Bare : State
  Quoted : State
  Escaped : State
  Closed : State

-- what a byte does (it belongs to no word, joins the present word, ends it, or breaks the quoting), and where the next byte stands
pub data Transition : Type 0 where
  Skips : State → Transition
  Joins : State → Transition
  Ends : State → Transition
  Breaks : Transition

-- a byte joins the present word, but a newline breaks the quoting
abbrev pub joins : State → ℕ → Transition
joins next byte = if byte == 10 then Breaks else Joins next

-- what a byte does by where it stands. Between words blanks and tabs are skipped, `"` opens a quoted word and any other byte an
-- unquoted one, which a blank or a tab ends. A quoted word ends at its closing `"`, after which a blank or a tab follows
abbrev pub transition_of : State → ℕ → Transition
transition_of Between byte = if is_blank byte then Skips Between else if byte == 34 then Skips Quoted else joins Bare byte
transition_of Bare byte = if is_blank byte then Ends Between else if byte == 34 then Breaks else joins Bare byte
transition_of Quoted byte = if byte == 34 then Ends Closed else if byte == 92 then Skips Escaped else joins Quoted byte
transition_of Escaped byte = joins Quoted byte
transition_of Closed byte = if is_blank byte then Skips Between else Breaks

-- the byte put before the bytes of the first word
abbrev pub in_front : ℕ → List (List ℕ) → List (List ℕ)
in_front byte [] = []
in_front byte (word ∷ words) = (byte ∷ word) ∷ words

-- the words from a byte on, given what the byte does and the words from the next byte on
abbrev pub acted : Transition → ℕ → (State → Option (List (List ℕ))) → Option (List (List ℕ))
acted (Skips next) byte words = words next
acted (Joins next) byte words = option_map (in_front byte) (words next)
acted (Ends next) byte words = option_map (λ further. [] ∷ further) (words next)
acted Breaks byte words = None

-- the words of the rest of a line, the first of which is the rest of the present word; nothing where the quoting is bad
abbrev pub words_from : State → List ℕ → Option (List (List ℕ))
words_from Between [] = Some []
words_from Bare [] = Some ([] ∷ [])
words_from Quoted [] = None
words_from Escaped [] = None
words_from Closed [] = Some []
words_from place (byte ∷ bytes) = acted (transition_of place byte) byte (λ next. words_from next bytes)

-- the words of the line; nothing where it is badly quoted
abbrev pub words_of : List ℕ → Option (List (List ℕ))
words_of line = words_from Between line

-- this fact, where the fault is that the line is badly quoted
abbrev pub OnQuoting : WordFault → Type 0 → Type 0
OnQuoting Quoting P = P
OnQuoting NoMemory P = Unit {0}

-- ---- Words that lie one after another in one list of bytes, given by the places where they end.

-- the words of the bytes from a place on: each goes up to its end, where the next one begins
abbrev pub words_to : List ℕ → ℕ → List ℕ → List (List ℕ)
words_to bytes from [] = []
words_to bytes from (end ∷ ends) = take (end - from) (drop from bytes) ∷ words_to bytes end ends

-- no end lies before the end before it, the first not before the given place, and none beyond the last byte
abbrev pub do_rise : ℕ → List ℕ → ℕ → Bool
do_rise from [] last = nat_le from last
do_rise from (end ∷ ends) last = nat_le from end && do_rise end ends last
