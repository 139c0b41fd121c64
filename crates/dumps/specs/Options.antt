-- The table of options: the options of a rule, of matches and of targets (iptables-extensions(8)).
use Rattle.std.specs.Prelude.{ℕ, Bool, true, false, not, ◌&&◌, ◌||◌, ◌==◌, List, find, Option, Some, None, option_map}
use Rattle.std.specs.List.{list_any}
use Rattle.std.specs.Str.{bytes_eq}
use Rattle.dumps.specs.declared.options.row.Role.{Role}
use Rattle.dumps.specs.declared.options.row.Role.TheVariants as role
use Rattle.dumps.specs.declared.options.row.Kind.{Kind}
use Rattle.dumps.specs.declared.options.row.Kind.TheVariants as kind

-- an option: the match or target that has it, or nothing where the rule itself has it; its spellings; how many values follow; what it
-- is to the rule
pub record Row : Type 0 where
  pub owner : List ℕ
  pub names : List (List ℕ)
  pub values : ℕ
  pub role : Role

-- a match or a target, the words of protocols that begin it by themselves, and the matches that ask what it sets
pub record Extension : Type 0 where
  pub name : List ℕ
  pub kind : Kind
  pub protocols : List (List ℕ)
  pub sets : List (List ℕ)

-- a condition that the program can be given in words of its own: its text, the words that ask it, and those that ask its opposite
pub record Known : Type 0 where
  pub text : List ℕ
  pub holds : List (List ℕ)
  pub fails : List (List ℕ)

-- a table: its options, its matches and targets, the names of ports and of types of ICMP with their numbers, and the conditions that are known
pub record Table : Type 0 where
  pub options : List Row
  pub extensions : List Extension
  pub ports : List (List ℕ × List ℕ)
  pub icmp_types : List (List ℕ × List ℕ)
  pub known : List Known

-- the first option of an owner that is spelled so
abbrev pub option_of : List Row → List ℕ → List ℕ → Option Row
option_of rows owner name = find (λ (row : Row). bytes_eq row.owner owner && list_any (bytes_eq name) row.names) rows

-- the first match or target of a name
abbrev pub extension_of : List Extension → List ℕ → Option Extension
extension_of rows name = find (λ (row : Extension). bytes_eq row.name name) rows

-- the name of the first match that the word of a protocol begins by itself
abbrev pub begun_by_protocol : List Extension → List ℕ → Option (List ℕ)
begun_by_protocol rows protocol = option_map (λ (row : Extension). row.name) (find (λ (row : Extension). list_any (bytes_eq protocol) row.protocols) rows)

-- the number of a name
abbrev pub number_of : List (List ℕ × List ℕ) → List ℕ → Option (List ℕ)
number_of rows name = option_map (λ (row : List ℕ × List ℕ). row.1) (find (λ (row : List ℕ × List ℕ). bytes_eq row.0 name) rows)

-- the first condition of a text that is known
abbrev pub known_of : List Known → List ℕ → Option Known
known_of rows text = find (λ (row : Known). bytes_eq row.text text) rows

-- a kind of match
abbrev pub is_match : Kind → Bool
is_match (kind.Known alone) = true
is_match (kind.Foreign lasting) = true
is_match kind.Ends = false
is_match kind.Logs = false
is_match kind.Passes = false
is_match (kind.Decides all) = false

-- a target with a verdict of its own, which the program doesn't read
abbrev pub is_deciding : Kind → Bool
is_deciding (kind.Known alone) = false
is_deciding (kind.Foreign lasting) = false
is_deciding kind.Ends = false
is_deciding kind.Logs = false
is_deciding kind.Passes = false
is_deciding (kind.Decides all) = true

-- a target that may end the walk: one that the program reads, or one with a verdict of its own for each packet
abbrev pub is_ending : Kind → Bool
is_ending (kind.Known alone) = false
is_ending (kind.Foreign lasting) = false
is_ending kind.Ends = true
is_ending kind.Logs = false
is_ending kind.Passes = false
is_ending (kind.Decides all) = all

-- the extension is there and its kind passes the test
abbrev pub has_kind : (Kind → Bool) → Option Extension → Bool
has_kind test None = false
has_kind test (Some row) = test row.kind

-- there is a match of this name
abbrev pub has_match : Table → List ℕ → Bool
has_match table name = has_kind is_match (extension_of table.extensions name)

-- there is a target of this name
abbrev pub has_target : Table → List ℕ → Bool
has_target table name = has_kind (λ k. not (is_match k)) (extension_of table.extensions name)

-- there is a target of this name with a verdict of its own, which the program doesn't read
abbrev pub decides : Table → List ℕ → Bool
decides table name = has_kind is_deciding (extension_of table.extensions name)

-- a number for each role
abbrev pub role_number : Role → ℕ
role_number role.Own = 0
role_number role.Ports = 1
role_number role.IcmpType = 2
role_number role.Protocol = 3
role_number role.Match = 4
role_number role.Target = 5
role_number role.Asks = 6
role_number role.Unopposed = 7
role_number role.Holds = 8
role_number role.Says = 9
role_number role.Turns = 10
role_number role.AsksOf = 11
role_number role.Counts = 12
role_number role.Sets = 13

-- the second role is the first
abbrev pub is_role : Role → Role → Bool
is_role r s = role_number s == role_number r

-- the option begins a match or names a target
abbrev pub begins_or_names : Role → Bool
begins_or_names r = is_role role.Match r || is_role role.Target r
