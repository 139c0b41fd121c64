-- Which options, matches and targets a text means, a line each.
use Rattle.std.specs.Prelude.{◌≡◌, ℕ, ◌+◌, ◌==◌, true, false, List, [], ◌∷◌, ◌++◌, length, drop, Some, Contains, codes, if◌then◌else◌}
use Rattle.std.specs.Borrow.{Bor}
use Rattle.std.specs.List.{AllZip, slice_split}
use Rattle.std.specs.Str.{bytes_eq}
use Rattle.std.specs.Str.Lines.{lines}
use Rattle.fields.specs.text.Number.{number_to}
use Rattle.dumps.specs.Options.{Row, Extension, is_match}
use Rattle.dumps.specs.Known.{own_owner, known_rows, known_extensions}
use Rattle.dumps.specs.Views.{texts_in}
use Rattle.dumps.specs.declared.options.row.Role.{Role}
use Rattle.dumps.specs.declared.options.row.Role.TheVariants as role
use Rattle.dumps.specs.declared.options.row.Kind.{Kind}
use Rattle.dumps.specs.declared.options.row.Kind.TheVariants as kind
use Rattle.dumps.specs.declared.options.row.Lasting.TheVariants as lasting
use Rattle.dumps.specs.declared.options.kept.Span.{Span}
use Rattle.dumps.specs.declared.options.kept.KeptOption.{KeptOption}
use Rattle.dumps.specs.declared.options.kept.KeptExtension.{KeptExtension}
use Rattle.dumps.specs.declared.options.kept.KnownOptions.{KnownOptions}
use Rattle.dumps.specs.declared.options.refusal.OptionRefusal.{OptionRefusal}
use Rattle.dumps.specs.declared.options.refusal.OptionRefusal.TheVariants.{NotARow}

-- the words of a line: what stands between its blanks (32)
abbrev pub words_between : List ℕ → List (List ℕ)
words_between line = slice_split (λ byte. byte == 32) line

-- the word for a role
abbrev pub role_word : Role → List ℕ
role_word role.Own = codes "own"
role_word role.Ports = codes "ports"
role_word role.IcmpType = codes "icmp-type"
role_word role.Protocol = codes "protocol"
role_word role.Match = codes "match"
role_word role.Target = codes "target"
role_word role.Asks = codes "asks"
role_word role.Unopposed = codes "unopposed"
role_word role.Holds = codes "holds"
role_word role.Says = codes "says"
role_word role.Turns = codes "turns"
role_word role.AsksOf = codes "asks-of"
role_word role.Counts = codes "counts"
role_word role.Sets = codes "sets"

-- the word for a kind
abbrev pub kind_word : Kind → List ℕ
kind_word (kind.Known false) = codes "known"
kind_word (kind.Known true) = codes "alone"
kind_word (kind.Foreign lasting.Text) = codes "text"
kind_word (kind.Foreign lasting.Place) = codes "place"
kind_word (kind.Foreign lasting.Set) = codes "set"
kind_word kind.Ends = codes "ends"
kind_word kind.Logs = codes "logs"
kind_word kind.Passes = codes "passes"
kind_word (kind.Decides true) = codes "decides"
kind_word (kind.Decides false) = codes "may-decide"

-- whose an option is by a word: `.` is the rule itself
abbrev pub owner_named : List ℕ → List ℕ
owner_named word = if bytes_eq word (codes ".") then [] else word

-- Texts mean an option: they are whose it is, the role, how many values follow, at most 9, and the spellings.
pub record AreOption (texts : List (List ℕ)) (row : Row) : Type 0 where
  pub owner : List ℕ
  pub values : List ℕ
  pub words : texts ≡ owner ∷ (role_word row.role ∷ (values ∷ row.names))
  pub owned : row.owner ≡ own_owner row.role (owner_named owner)
  pub counted : number_to 9 values ≡ Some row.values

-- Texts mean a match or a target: they are the name, the kind, and of a match the protocols that begin it, of a target the matches that
-- ask what it sets.
pub record AreExtension (texts : List (List ℕ)) (row : Extension) : Type 0 where
  pub more : List (List ℕ)
  pub words : texts ≡ row.name ∷ (kind_word row.kind ∷ more)
  pub protocols : row.protocols ≡ if is_match row.kind then more else []
  pub sets : row.sets ≡ if is_match row.kind then [] else more

-- a line means an option, by its words
abbrev pub IsOptionLine : List ℕ → Row → Type 0
IsOptionLine line row = AreOption (words_between line) row

-- the same of a match or a target
abbrev pub IsExtensionLine : List ℕ → Extension → Type 0
IsExtensionLine line row = AreExtension (words_between line) row

-- each line of a text means an option, and these are the options in their order
pub record AreOptionLines (text : List ℕ) (rows : List Row) : Type 0 where
  pub each : AllZip IsOptionLine (lines text) rows

-- the same of matches and targets
pub record AreExtensionLines (text : List ℕ) (rows : List Extension) : Type 0 where
  pub each : AllZip IsExtensionLine (lines text) rows

-- why the options of a text aren't kept, and for which line: it is one of the text, and means no option
pub record IsNoOption (text : List ℕ) (why : OptionRefusal × List ℕ) : Type 0 where
  pub refusal : why.0 ≡ NotARow
  pub line : Contains (lines text) why.1
  pub none : (row : Row) → IsOptionLine why.1 row → ⊥

-- the same of matches and targets
pub record IsNoExtension (text : List ℕ) (why : OptionRefusal × List ℕ) : Type 0 where
  pub refusal : why.0 ≡ NotARow
  pub line : Contains (lines text) why.1
  pub none : (row : Extension) → IsExtensionLine why.1 row → ⊥

-- no words
abbrev pub no_words : Span
no_words = record { from = 0; to = 0 }

-- the option of a line is the last one, and matches and targets stay
pub record IsOptionLast (line : List ℕ) (old new : KnownOptions) : Type 0 where
  pub row : Row
  pub means : IsOptionLine line row
  pub last : known_rows new ≡ known_rows old ++ row ∷ []
  pub same : known_extensions new ≡ known_extensions old

-- the match or target of a line is the last one, and options stay
pub record IsExtensionLast (line : List ℕ) (old new : KnownOptions) : Type 0 where
  pub row : Extension
  pub means : IsExtensionLine line row
  pub last : known_extensions new ≡ known_extensions old ++ row ∷ []
  pub same : known_rows new ≡ known_rows old

-- the words of a line are kept behind the others, in this span; options, matches and targets stay
pub record AreWordsKept (line : List ℕ) (old new : KnownOptions) (span : Span) : Type 0 where
  pub more : List (Bor (List ℕ))
  pub are : texts_in more ≡ words_between line
  pub words : new.words.items ≡ old.words.items ++ more
  pub from : span.from ≡ length old.words.items
  pub to : span.to ≡ length new.words.items
  pub options : new.options.items ≡ old.options.items
  pub extensions : new.extensions.items ≡ old.extensions.items

-- what is left of a span behind so many words
abbrev pub behind : ℕ → Span → Span
behind count span = record { from = span.from + count; to = span.to }

-- an option by the words of its line, which have this span
pub record IsOptionOf (words : List (Bor (List ℕ))) (span : Span) (kept : KeptOption) : Type 0 where
  pub owner : List ℕ
  pub values : List ℕ
  pub are : texts_in words ≡ owner ∷ (role_word kept.role ∷ (values ∷ texts_in (drop 3 words)))
  pub owned : kept.owner.now ≡ owner_named owner
  pub counted : number_to 9 values ≡ Some kept.values
  pub names : kept.names ≡ behind 3 span

-- the same of a match or a target
pub record IsExtensionOf (words : List (Bor (List ℕ))) (span : Span) (kept : KeptExtension) : Type 0 where
  pub are : texts_in words ≡ kept.name.now ∷ (kind_word kept.kind ∷ texts_in (drop 2 words))
  pub protocols : kept.protocols ≡ if is_match kept.kind then behind 2 span else no_words
  pub sets : kept.sets ≡ if is_match kept.kind then no_words else behind 2 span
