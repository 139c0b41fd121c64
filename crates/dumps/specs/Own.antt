-- Which parts of a line the program reads, and the words that it is given (iptables-save(8)).
use Rattle.std.specs.Prelude.{◌≡◌, All, ℕ, ◌==◌, Bool, true, false, not, ◌&&◌, ◌||◌, List, [], ◌∷◌, ◌++◌, length, nat_lt, map, flat_map, if◌then◌else◌, Option, Some, None, is_some, codes}
use Rattle.std.specs.List.{list_any, list_all}
use Rattle.std.specs.Char.{is_ascii_alphabetic}
use Rattle.std.specs.Str.{bytes_eq}
use Rattle.fields.specs.text.Line.{IsOneLine, AreOneLine}
use Rattle.fields.specs.text.Words.{is_bare, words_of}
use Rattle.fields.specs.values.Icmp.{icmp_of}
use Rattle.fields.specs.values.Protocol.{protocol_of}
use Rattle.dumps.specs.Options.{Extension, Table, decides, extension_of, number_of, is_role}
use Rattle.dumps.specs.Parts.{IsTakenApart, Part, spelled_words, value_of}
use Rattle.dumps.specs.declared.options.row.Role.{Role}
use Rattle.dumps.specs.declared.options.row.Role.TheVariants as role
use Rattle.dumps.specs.declared.options.row.Kind.{Kind}
use Rattle.dumps.specs.declared.options.row.Kind.TheVariants as kind

-- the number, where there is one, and else the text itself
abbrev pub number_or : List ℕ → Option (List ℕ) → List ℕ
number_or text None = text
number_or text (Some number) = number

-- the number that a text has as a name, and else the text itself
abbrev pub numbered : List (List ℕ × List ℕ) → List ℕ → List ℕ
numbered rows text = number_or text (number_of rows text)

-- a `,` (44) or a `:` (58)
abbrev pub is_separator : ℕ → Bool
is_separator byte = byte == 44 || byte == 58

-- the same of each text between `,` and `:`; the first list is what stands before the second since the last of these
abbrev pub all_numbered_after : List (List ℕ × List ℕ) → List ℕ → List ℕ → List ℕ
all_numbered_after rows piece [] = numbered rows piece
all_numbered_after rows piece (byte ∷ bytes) =
    if is_separator byte then numbered rows piece ++ byte ∷ all_numbered_after rows [] bytes
    else all_numbered_after rows (piece ++ byte ∷ []) bytes

-- the value with the number of each name between separators
abbrev pub all_numbered : List (List ℕ × List ℕ) → List ℕ → List ℕ
all_numbered rows value = all_numbered_after rows [] value

-- a byte is an ASCII letter
abbrev pub has_letter : List ℕ → Bool
has_letter text = list_any is_ascii_alphabetic text

-- the value as the program is given it: names of ports and of types of ICMP are replaced by their numbers, and a target with a verdict of its own by DROP
abbrev pub given_value : Table → Role → List ℕ → List ℕ
given_value table r value =
    if is_role role.Ports r then all_numbered table.ports value
    else if is_role role.IcmpType r then numbered table.icmp_types value
    else if is_role role.Target r && decides table value then codes "DROP"
    else value

-- the program reads an option with this value as it is given. A value without letters has no name in it, so it is left to the program
-- to refuse it
abbrev pub reads_value : Role → List ℕ → Bool
reads_value r value =
    is_role role.Own r
    || (is_role role.Ports r || is_role role.IcmpType r || is_role role.Protocol r) && not (has_letter value)
    || is_role role.IcmpType r && is_some (icmp_of value)
    || is_role role.Protocol r && is_some (protocol_of value)

-- the program reads the part, which begins no match and names no target
abbrev pub is_read : Table → Part → Bool
is_read table part = reads_value part.row.role (given_value table part.row.role (value_of part))

-- the part is `-m` with this name
abbrev pub begins : List ℕ → Part → Bool
begins name part = is_role role.Match part.row.role && bytes_eq (value_of part) name

-- the option is that of a match or target of this name
abbrev pub is_of : List ℕ → Part → Bool
is_of name part = bytes_eq part.row.owner name

-- the parts up to where a match of this name is begun again
abbrev pub up_to_next : List ℕ → List Part → List Part
up_to_next name [] = []
up_to_next name (part ∷ parts) = if begins name part then [] else part ∷ up_to_next name parts

-- `-m` with this match, where these parts follow, stays: the program reads the match, and it may stand without an option, has none, or
-- has one that the program reads
abbrev pub stays_as : Table → List ℕ → List Part → Kind → Bool
stays_as table name parts (kind.Known alone) =
    alone || not (list_any (is_of name) parts) || list_any (λ part. is_of name part && is_read table part) parts
stays_as table name parts (kind.Foreign lasting) = false
stays_as table name parts kind.Ends = false
stays_as table name parts kind.Logs = false
stays_as table name parts kind.Passes = false
stays_as table name parts (kind.Decides all) = false

-- the same where the table has a match or target of this name; else it doesn't
abbrev pub match_stays : Table → List ℕ → List Part → Option Extension → Bool
match_stays table name parts None = false
match_stays table name parts (Some row) = stays_as table name parts row.kind

-- a kind of target that gives no verdict, and that the program doesn't read
abbrev pub is_passing : Kind → Bool
is_passing kind.Passes = true
is_passing kind.Ends = false
is_passing kind.Logs = false
is_passing (kind.Decides all) = false
is_passing (kind.Known alone) = false
is_passing (kind.Foreign lasting) = false

-- `-j` with this target stays, unless the target passes
abbrev pub target_stays : Option Extension → Bool
target_stays None = true
target_stays (Some row) = not (is_passing row.kind)

-- the part is own, before the parts that follow; else it is foreign
abbrev pub is_own : Table → Part → List Part → Bool
is_own table part after =
    let value = value_of part in
    if is_role role.Match part.row.role then match_stays table value (up_to_next value after) (extension_of table.extensions value)
    else if is_role role.Target part.row.role then target_stays (extension_of table.extensions value)
    else is_read table part

-- the words of a part as the program is given them
abbrev pub given_words : Table → Part → List (List ℕ)
given_words table part = spelled_words part.inverted part.option (map (given_value table part.row.role) part.values)

-- the own words of a part, before the parts that follow
abbrev pub own_part_words : Table → Part → List Part → List (List ℕ)
own_part_words table part after = if is_own table part after then given_words table part else []

-- the own words of a line: those of its own parts, in their order
abbrev pub own_words : Table → List Part → List (List ℕ)
own_words table [] = []
own_words table (part ∷ parts) = own_part_words table part parts ++ own_words table parts

-- a word may stand without quotes
abbrev pub stands_bare : List ℕ → Bool
stands_bare word = nat_lt 0 (length word) && list_all is_bare word

-- between quotes a backslash (92) stands before each `"` (34) and each backslash
abbrev pub escaped : ℕ → List ℕ
escaped byte = if byte == 34 || byte == 92 then 92 ∷ byte ∷ [] else byte ∷ []

-- the word between quotes
abbrev pub in_quotes : List ℕ → List ℕ
in_quotes word = 34 ∷ (flat_map escaped word ++ 34 ∷ [])

-- a word as a line has it: in quotes where it must be
abbrev pub spelled : List ℕ → List ℕ
spelled word = if stands_bare word then word else in_quotes word

-- words as a line has them, each after a blank
abbrev pub line_of : List (List ℕ) → List ℕ
line_of words = flat_map (λ (word : List ℕ). 32 ∷ spelled word) words

-- where no word has a newline, the words of such a line are these
abbrev pub LinesReadBack : Type 0
LinesReadBack = (words : List (List ℕ)) → AreOneLine words → words_of (line_of words) ≡ Some words

-- no number of the table has a newline
abbrev pub HasNumbersInOneLine : Table → Type 0
HasNumbersInOneLine table =
    All (λ (row : List ℕ × List ℕ). IsOneLine row.1) table.ports × All (λ (row : List ℕ × List ℕ). IsOneLine row.1) table.icmp_types

-- so the words of the own line of a line without newlines are its own words
abbrev pub OwnLinesReadBack : Type 0
OwnLinesReadBack =
    (table : Table) (words : List (List ℕ)) (parts : List Part) → HasNumbersInOneLine table → AreOneLine words → IsTakenApart table words parts
    → words_of (line_of (own_words table parts)) ≡ Some (own_words table parts)
