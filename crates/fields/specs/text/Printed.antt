-- Lines of words as a listing prints them (iptables-save(8)).
use Rattle.std.specs.Prelude.{◌≡◌, ◌≢◌, ℕ, Bool, true, false, IsTrue, List, [], ◌∷◌, map, flat_map, All, Some, if◌then◌else◌}
use Rattle.std.specs.Bool.{MatchBool}
use Rattle.std.specs.List.{list_all}
use Rattle.fields.specs.text.Line.{IsOneLine}
use Rattle.fields.specs.text.Words.{is_bare, words_of}
use Rattle.fields.specs.values.FreeText.{quoted}

-- a word to be printed: as it is or, where it is a text, in quotes if it needs them
pub record Shown : Type 0 where
  pub word : List ℕ
  pub text : Bool

-- a word that is printed as it is
abbrev pub bare : List ℕ → Shown
bare word = record { word = word; text = false }

-- a word that is printed as a text
abbrev pub as_text : List ℕ → Shown
as_text word = record { word = word; text = true }

-- the bytes that are printed
abbrev pub spelling : Shown → List ℕ
spelling shown = if shown.text then quoted shown.word else shown.word

-- the word, after one blank (32)
abbrev pub spaced : Shown → List ℕ
spaced shown = 32 ∷ spelling shown

-- the words, each after one blank
abbrev pub spaced_all : List Shown → List ℕ
spaced_all line = flat_map spaced line

-- a word that may stand without quotes: one or more bytes without blank, tab, `"` and newline
pub record IsBareWord (word : List ℕ) : Type 0 where
  pub some : word ≢ []
  pub bytes : IsTrue (list_all is_bare word)

-- a text has no newline, and a word that is printed as it is may stand without quotes
abbrev pub IsPrintable : Shown → Type 0
IsPrintable shown = MatchBool shown.text (IsOneLine shown.word) (IsBareWord shown.word)

-- each word may be printed
abbrev pub ArePrintable : List Shown → Type 0
ArePrintable line = All IsPrintable line

-- the line that is printed of such words is read as these words
abbrev pub LinesReadBack : Type 0
LinesReadBack = (line : List Shown) → ArePrintable line → words_of (spaced_all line) ≡ Some (map (λ shown. shown.word) line)
