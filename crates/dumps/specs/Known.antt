-- An option that is added to the table (iptables-extensions(8)).
use Rattle.std.specs.Borrow.{Bor}
use Rattle.std.specs.List.{list_any}
use Rattle.std.specs.Prelude.{◌≡◌, ◌≢◌, ℕ, ◌==◌, Bool, ◌&&◌, ◌||◌, false, true, List, [], ◌∷◌, ◌++◌, length, map, take, drop, find, Option, Some, None, is_some, option_map, if◌then◌else◌}
use Rattle.std.specs.Str.{bytes_eq}
use Rattle.fields.specs.Sequence.{◌>>=◌}
use Rattle.fields.specs.text.Cut.{cut_at}
use Rattle.fields.specs.text.Number.{number_to}
use Rattle.dumps.specs.Options.{Row, Extension, Table, extension_of, is_role}
use Rattle.dumps.specs.Own.{HasNumbersInOneLine}
use Rattle.dumps.specs.Services.{names_of, services, icmp_types}
use Rattle.dumps.specs.Views.{texts_in, rows_in, extensions_in, names_in}
use Rattle.dumps.specs.declared.options.row.Role.{Role}
use Rattle.dumps.specs.declared.options.row.Role.TheVariants as role
use Rattle.dumps.specs.declared.options.row.Kind.{Kind}
use Rattle.dumps.specs.declared.options.row.Kind.TheVariants as kind
use Rattle.dumps.specs.declared.options.row.Lasting.TheVariants as lasting
use Rattle.dumps.specs.declared.options.kept.Span.{Span}
use Rattle.dumps.specs.declared.options.kept.KeptOption.{KeptOption}
use Rattle.dumps.specs.declared.options.kept.KeptExtension.{KeptExtension}
use Rattle.dumps.specs.declared.options.kept.KnownOptions.{KnownOptions}
use Rattle.dumps.specs.declared.options.known.Rows.{Rows}
use Rattle.dumps.specs.declared.options.known.WrittenOption.{WrittenOption}
use Rattle.dumps.specs.declared.options.refusal.OptionRefusal.{OptionRefusal}
use Rattle.dumps.specs.declared.options.refusal.OptionRefusal.TheVariants as refusal
use Rattle.dumps.specs.declared.options.refusal.OptionFault.{OptionFault}
use Rattle.dumps.specs.declared.options.refusal.OptionFault.TheVariants as fault

-- an option as it is added: the name of its match, its spelling, and how many values follow
pub record Written : Type 0 where
  pub name : List ℕ
  pub option : List ℕ
  pub values : ℕ

-- the same, by the code's value
abbrev pub written_in : WrittenOption → Written
written_in row = record { name = row.name.now; option = row.option.now; values = row.values }

-- the row of an option that is added
abbrev pub added_row : Written → Row
added_row row = record { owner = row.name; names = row.option ∷ []; values = row.values; role = role.Unopposed }

-- these, unless a name is empty
abbrev pub unless_empty : List ℕ → List ℕ → ℕ → Option Written
unless_empty name option values =
    if length name == 0 || length option == 0 then None else Some (record { name = name; option = option; values = values })

-- what a text `MATCH OPTION N` writes, with one blank (32) between two words, and N of at most 9
unfoldable pub written_by : List ℕ → Option Written
written_by text = do
  p ← cut_at 32 text
  q ← cut_at 32 p.1
  n ← number_to 9 q.1
  unless_empty p.0 q.0 n

-- the kind of the first match or target of a name
abbrev pub kind_of : List KeptExtension → List ℕ → Option Kind
kind_of kept name = option_map (λ (e : KeptExtension). e.kind) (find (λ (e : KeptExtension). bytes_eq e.name.now name) kept)

-- why what has this kind gets no option that asks a condition
abbrev pub kind_refusal : Kind → Option OptionRefusal
kind_refusal (kind.Known alone) = Some refusal.MatchIsRead
kind_refusal (kind.Foreign lasting) = None
kind_refusal kind.Ends = Some refusal.NameOfTarget
kind_refusal kind.Logs = Some refusal.NameOfTarget
kind_refusal kind.Passes = Some refusal.NameOfTarget
kind_refusal (kind.Decides all) = Some refusal.NameOfTarget

-- why a name gets none: it may be that of a match which isn't there yet
abbrev pub name_refusal : Option Kind → Option OptionRefusal
name_refusal None = None
name_refusal (Some kind) = kind_refusal kind

-- whose an option is: one that begins a match, or gives a protocol, is the rule's own
abbrev pub own_owner : Role → List ℕ → List ℕ
own_owner r owner = if is_role role.Match r || is_role role.Protocol r then [] else owner

-- the words of a span
abbrev pub words_at : List (Bor (List ℕ)) → Span → List (List ℕ)
words_at words span = texts_in (drop span.from (take span.to words))

-- an option with its spellings, which are among these words
abbrev pub kept_row : List (Bor (List ℕ)) → KeptOption → Row
kept_row words kept =
    record { owner = own_owner kept.role kept.owner.now; names = words_at words kept.names; values = kept.values; role = kept.role }

-- those that are known
abbrev pub known_rows : KnownOptions → List Row
known_rows known = map (kept_row known.words.items) known.options.items

-- a match or target, with the protocols that begin it and the matches that ask what it sets
abbrev pub kept_extension : List (Bor (List ℕ)) → KeptExtension → Extension
kept_extension words kept =
    record { name = kept.name.now; kind = kept.kind; protocols = words_at words kept.protocols; sets = words_at words kept.sets }

-- those that are known
abbrev pub known_extensions : KnownOptions → List Extension
known_extensions known = map (kept_extension known.words.items) known.extensions.items

-- the rows of a table are those that are known, its names are those of services and types of ICMP, and no number has a newline
pub record AreLent (known : KnownOptions) (table : Table) : Type 0 where
  pub options : table.options ≡ known_rows known
  pub extensions : table.extensions ≡ known_extensions known
  pub ports : table.ports ≡ names_of services
  pub icmp_types : table.icmp_types ≡ names_of icmp_types
  pub numbers : HasNumbersInOneLine table

-- an option of the rule itself, or of the match of a name, is spelled so
abbrev pub is_spelled : List ℕ → List ℕ → Row → Bool
is_spelled name option row = (length row.owner == 0 || bytes_eq row.owner name) && list_any (bytes_eq option) row.names

-- a match that is added: each place has a condition of its own
abbrev pub added_match : List ℕ → Extension
added_match name = record { name = name; kind = kind.Foreign lasting.Place; protocols = []; sets = [] }

-- these and, unless there is a match or target of its name, one that is added
abbrev pub with_match : List ℕ → List Extension → List Extension
with_match name rows = if is_some (extension_of rows name) then rows else rows ++ added_match name ∷ []

-- An option is added: the text writes one, its name is that of a match which the program doesn't read, or of none yet, none is spelled so
-- yet, it is the last option, one that asks and of which nobody says that `!` asks the opposite, and its match is there.
pub record IsAdded (text : List ℕ) (old new : KnownOptions) : Type 0 where
  pub row : Written
  pub written : written_by text ≡ Some row
  pub allowed : name_refusal (kind_of old.extensions.items row.name) ≡ None
  pub spelled : list_any (is_spelled row.name row.option) (known_rows old) ≡ false
  pub last : known_rows new ≡ known_rows old ++ added_row row ∷ []
  pub there : known_extensions new ≡ with_match row.name (known_extensions old)

-- A match is added without an option: its name is that of a match which the program doesn't read, or of none yet.
pub record IsMatchAdded (name : List ℕ) (old new : KnownOptions) : Type 0 where
  pub named : name ≢ []
  pub allowed : name_refusal (kind_of old.extensions.items name) ≡ None
  pub same : known_rows new ≡ known_rows old
  pub there : known_extensions new ≡ with_match name (known_extensions old)

-- Why no match is added, and for which word: there is no name; or it is that of a target, or of a match which the program reads.
pub data IsMatchRefused (name : List ℕ) (old : KnownOptions) (why : OptionRefusal × List ℕ) : Type 0 where
  Nameless : name ≡ [] → why ≡ (refusal.NotAnOption, name) → IsMatchRefused name old why
  OfName : (r : OptionRefusal) → name_refusal (kind_of old.extensions.items name) ≡ Some r → why ≡ (r, name) → IsMatchRefused name old why

-- Why none is added, and for which word: the text writes none; the name is that of a target, or of a match which the program reads; or
-- there is an option that is spelled so.
pub data IsAddRefused (text : List ℕ) (old : KnownOptions) (why : OptionRefusal × List ℕ) : Type 0 where
  NotWritten : written_by text ≡ None → why ≡ (refusal.NotAnOption, text) → IsAddRefused text old why
  Name : (row : Written) (r : OptionRefusal) → written_by text ≡ Some row → name_refusal (kind_of old.extensions.items row.name) ≡ Some r → why ≡ (r, row.name)
      → IsAddRefused text old why
  There : (row : Written) → written_by text ≡ Some row → list_any (is_spelled row.name row.option) (known_rows old) ≡ true → why ≡ (refusal.OptionIsThere, row.option)
      → IsAddRefused text old why

-- the table of some rows
abbrev pub table_of : Rows → Table
table_of rows =
    record {
      options = rows_in rows.options.items;
      extensions = extensions_in rows.extensions.items;
      ports = names_in rows.ports.items;
      icmp_types = names_in rows.icmp_types.items;
      known = [];
    }

-- why a fault refuses, and for which word; that memory ran out is no refusal
abbrev pub add_refused_in : OptionFault → Option (OptionRefusal × List ℕ)
add_refused_in fault.NoMemory = None
add_refused_in (fault.Refused why word) = Some (why, word.bytes.items)
