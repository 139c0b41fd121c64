-- The parts of a line, what may stand next after those before it, and what it means that a line is taken apart (iptables(8), PARAMETERS).
use Rattle.std.specs.Prelude.{ℕ, Bool, true, false, ◌&&◌, ◌||◌, not, nat_lt, List, [], ◌∷◌, length, take, drop, codes, if◌then◌else◌, Option, Some, None, Result, Ok, Err, ◌≡◌, ◌≢◌, ◌⊎◌, ◌++◌, flat_map}
use Rattle.std.specs.Option.{option_or}
use Rattle.std.specs.Str.{bytes_eq}
use Rattle.dumps.specs.Options.{Row, Extension, Table, option_of, extension_of, is_role, begun_by_protocol, has_match, has_target, begins_or_names}
use Rattle.dumps.specs.declared.options.row.Role.{Role}
use Rattle.dumps.specs.declared.options.row.Role.TheVariants as role

-- ---- The parts of a line, and what may stand next after those before it (iptables(8), PARAMETERS).

-- an option as it is spelled, after a `!` or not, its values, and its row in the table
pub record Part : Type 0 where
  pub inverted : Bool
  pub option : List ℕ
  pub values : List (List ℕ)
  pub row : Row

-- the words of an option with its values, after a `!` or not
abbrev pub spelled_words : Bool → List ℕ → List (List ℕ) → List (List ℕ)
spelled_words true option values = codes "!" ∷ (option ∷ values)
spelled_words false option values = option ∷ values

-- the words of a part
abbrev pub part_words : Part → List (List ℕ)
part_words part = spelled_words part.inverted part.option part.values

-- the first of some words, or the empty word
abbrev pub first_of : List (List ℕ) → List ℕ
first_of [] = []
first_of (word ∷ words) = word

-- its first value
abbrev pub value_of : Part → List ℕ
value_of part = first_of part.values

-- the name of the match or target that an option with this value begins: `-m` begins a match, and `-j` a target that the table has
abbrev pub begun_with : Table → Role → List ℕ → Option (List ℕ)
begun_with table r value = if is_role role.Match r || is_role role.Target r && has_target table value then Some value else None

-- the name of the match that `-p` with this value, and without `!`, begins by itself
abbrev pub implied_with : Table → Role → Bool → List ℕ → Option (List ℕ)
implied_with table r inverted value =
    if is_role role.Protocol r && not inverted then begun_by_protocol table.extensions value else None

-- what a part begins
abbrev pub begun_by : Table → Part → Option (List ℕ)
begun_by table part = begun_with table part.row.role (value_of part)

-- what a part begins by its protocol
abbrev pub implied_by : Table → Part → Option (List ℕ)
implied_by table part = implied_with table part.row.role part.inverted (value_of part)

-- the option of this spelling that what is begun has, if something is
abbrev pub option_of_begun : Table → List ℕ → Option (List ℕ) → Option Row
option_of_begun table option None = None
option_of_begun table option (Some name) = option_of table.options name option

-- the option of this spelling of the newest part that begins something which has one
abbrev pub newest : Table → (Part → Option (List ℕ)) → List Part → List ℕ → Option Row
newest table begun [] option = None
newest table begun (part ∷ parts) option =
    option_or (newest table begun parts option) (option_of_begun table option (begun part))

-- the option that is spelled so after these parts: the rule's own; else that of the newest match or target begun before which has
-- one; else that of the match which the protocol begins
abbrev pub option_after : Table → List Part → List ℕ → Option Row
option_after table before option =
    option_or (option_of table.options [] option)
    (option_or (newest table (begun_by table) before option) (newest table (implied_by table) before option))

-- the target that a part names, where the table has it
abbrev pub target_by : Table → Part → Option Extension
target_by table part =
    if is_role role.Target part.row.role && has_target table (value_of part) then extension_of table.extensions (value_of part)
    else None

-- the target of a line, where the table has it: that of the last part which names one
abbrev pub target_of : Table → List Part → Option Extension
target_of table [] = None
target_of table (part ∷ parts) = option_or (target_of table parts) (target_by table part)

-- why no part may stand at a place, with the word that is refused
pub data Refusal : Type 0 where
  UnknownOption : List ℕ → Refusal
  ValueMissing : List ℕ → Refusal
  UnknownMatch : List ℕ → Refusal
  InversionNotAllowed : List ℕ → Refusal

-- why an option with this value may not stand anywhere: a match that the table lacks
abbrev pub refused_with : Table → Role → List ℕ → Option Refusal
refused_with table r value =
    if is_role role.Match r && not (has_match table value) then Some (UnknownMatch value) else None

-- the part and what follows it, unless it is refused
abbrev pub unless_refused : Part → List (List ℕ) → Option Refusal → Result (Part × List (List ℕ)) Refusal
unless_refused part rest None = Ok (part, rest)
unless_refused part rest (Some refusal) = Err refusal

-- the part of these, and what follows it, unless it is refused
abbrev pub checked : Table → Part → List (List ℕ) → Result (Part × List (List ℕ)) Refusal
checked table part rest = unless_refused part rest (refused_with table part.row.role (value_of part))

-- the option takes as many words as its row says, whatever they look like
abbrev pub with_values : Table → Bool → List ℕ → Row → List (List ℕ) → Result (Part × List (List ℕ)) Refusal
with_values table inverted option row words =
    if inverted && begins_or_names row.role then Err (InversionNotAllowed option)
    else if nat_lt (length words) row.values then Err (ValueMissing option)
    else checked table (record { inverted = inverted; option = option; values = take row.values words; row = row }) (drop row.values words)

-- the option of this row, if there is one
abbrev pub with_row : Table → Bool → List ℕ → Option Row → List (List ℕ) → Result (Part × List (List ℕ)) Refusal
with_row table inverted option None words = Err (UnknownOption option)
with_row table inverted option (Some row) words = with_values table inverted option row words

-- what stands after `!`
abbrev pub after_bang : Table → List Part → List (List ℕ) → Result (Part × List (List ℕ)) Refusal
after_bang table before [] = Err (ValueMissing (codes "!"))
after_bang table before (option ∷ words) = with_row table true option (option_after table before option) words

-- the part that a word begins, with the words after it, and what follows; or why none may stand there after the parts before
unfoldable pub next_part : Table → List Part → List ℕ → List (List ℕ) → Result (Part × List (List ℕ)) Refusal
next_part table before word words =
    if bytes_eq word (codes "!") then after_bang table before words
    else with_row table false word (option_after table before word) words

-- ---- What it means that a line is taken apart, part by part, without saying how the parts are found.

-- a part that may stand after those before it: its option is the one that is spelled so there, as many words follow as its row says,
-- and it isn't refused. A word `!` always inverts what follows
pub record IsPart (table : Table) (before : List Part) (part : Part) : Type 0 where
  pub option : option_after table before part.option ≡ Some part.row
  pub values : length part.values ≡ part.row.values
  pub inverted : part.inverted ≡ true → begins_or_names part.row.role ≡ false
  pub plain : part.inverted ≡ false → part.option ≢ codes "!"
  pub allowed : refused_with table part.row.role (value_of part) ≡ None

-- each part may stand after those before it
abbrev pub AreParts : Table → List Part → List Part → Type 0
AreParts table before [] = Unit {0}
AreParts table before (part ∷ parts) = IsPart table before part × AreParts table (before ++ part ∷ []) parts

-- The words of a line are taken apart: the words of the parts, one after another, are those of the line, so each word is in just one
-- part; and each part may stand after those before it.
pub record IsTakenApart (table : Table) (words : List (List ℕ)) (parts : List Part) : Type 0 where
  pub whole : words ≡ flat_map part_words parts
  pub each : AreParts table [] parts

-- the line is refused: it begins with parts that may stand there, and what follows is refused
pub record IsRefused (table : Table) (words : List (List ℕ)) (refusal : Refusal) : Type 0 where
  pub parts : List Part
  pub word : List ℕ
  pub rest : List (List ℕ)
  pub whole : words ≡ flat_map part_words parts ++ word ∷ rest
  pub each : AreParts table [] parts
  pub here : next_part table parts word rest ≡ Err refusal

-- a line is taken apart in one way
abbrev pub IsOneWay : Type 0
IsOneWay =
    (table : Table) (words : List (List ℕ)) (a b : List Part) → IsTakenApart table words a → IsTakenApart table words b → a ≡ b

-- and what is taken apart isn't refused
abbrev pub IsNeverBoth : Type 0
IsNeverBoth =
    (table : Table) (words : List (List ℕ)) (parts : List Part) (refusal : Refusal) → IsTakenApart table words parts → ¬ IsRefused table words refusal

-- it is refused in one way
abbrev pub IsRefusedOneWay : Type 0
IsRefusedOneWay =
    (table : Table) (words : List (List ℕ)) (a b : Refusal) → IsRefused table words a → IsRefused table words b → a ≡ b

-- it is taken apart, or refused
abbrev pub HasOutcome : Type 0
HasOutcome =
    (table : Table) (words : List (List ℕ)) → ((parts : List Part) × IsTakenApart table words parts) ⊎ ((refusal : Refusal) × IsRefused table words refusal)
