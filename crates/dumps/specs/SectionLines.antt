-- What a line of the section `filter` is to the rules before it (iptables-restore(8)).
use Rattle.std.specs.Prelude.{ℕ, ◌==◌, ◌&&◌, ◌||◌, not, Bool, false, List, [], ◌∷◌, drop, Option, Some, None, codes, if◌then◌else◌}
use Rattle.std.specs.List.{list_any}
use Rattle.std.specs.Str.{bytes_eq}
use Rattle.dumps.specs.Foreign.{ReadRule, is_in}
use Rattle.dumps.specs.Parts.{first_of}

-- a line that puts a rule last in a chain: counters before it or none, `-A` or `--append`, the chain, and the words of the rule
pub record RuleLine : Type 0 where
  pub counters : Option (List ℕ)
  pub command : List ℕ
  pub chain : List ℕ
  pub words : List (List ℕ)

-- a word is one of two spellings
abbrev pub is_either : List ℕ → List ℕ → List ℕ → Bool
is_either short long word = bytes_eq word short || bytes_eq word long

-- the first byte is this one
abbrev pub begins_with : ℕ → List ℕ → Bool
begins_with byte [] = false
begins_with byte (b ∷ bs) = b == byte

-- the only word is `COMMIT`
abbrev pub is_commit_word : List (List ℕ) → Bool
is_commit_word [] = false
is_commit_word (word ∷ []) = bytes_eq word (codes "COMMIT")
is_commit_word (word ∷ (more ∷ words)) = false

-- the line `COMMIT`, with or without blanks and tabs around it: a quoted word has a `"` (34)
abbrev pub is_commit : List ℕ → List (List ℕ) → Bool
is_commit line words = is_commit_word words && not (list_any (λ byte. byte == 34) line)

-- the line with a rule that these words write, behind these counters
abbrev pub rule_after : Option (List ℕ) → List (List ℕ) → Option RuleLine
rule_after counters [] = None
rule_after counters (command ∷ []) = None
rule_after counters (command ∷ (chain ∷ words)) =
    if is_either (codes "-A") (codes "--append") command then Some (record { counters = counters; command = command; chain = chain; words = words }) else None

-- a first word that begins with `[` (91) is counters
abbrev pub rule_line : List (List ℕ) → Option RuleLine
rule_line [] = None
rule_line (word ∷ words) = if begins_with 91 word then rule_after (Some word) words else rule_after None (word ∷ words)

-- Another line: it does nothing to rules and names; it makes a chain of a name; it is a chain line of a name; its command gives a chain a
-- name, and may move rules; or its command may move rules.
pub data OtherLine : Type 0 where
  Quiet : OtherLine
  NewChain : (name : List ℕ) → OtherLine
  ChainLine : (name : List ℕ) → OtherLine
  Renames : (name command : List ℕ) → OtherLine
  Moves : (command : List ℕ) → OtherLine

-- what a command does that no table is named before, with the words after it
abbrev pub command_line : List ℕ → List (List ℕ) → OtherLine
command_line command words =
    if is_either (codes "-N") (codes "--new-chain") command then NewChain (first_of words)
    else if is_either (codes "-P") (codes "--policy") command then Quiet
    else if is_either (codes "-E") (codes "--rename-chain") command then Renames (first_of (drop 1 words)) command
    else Moves command

-- a command behind the name of a table is taken for one that may move rules
abbrev pub behind_table : List ℕ → OtherLine → OtherLine
behind_table option Quiet = Moves option
behind_table option (NewChain name) = Renames name option
behind_table option (ChainLine name) = Moves option
behind_table option (Renames name command) = Renames name option
behind_table option (Moves command) = Moves option

-- what a command does, behind the option that names a table too
abbrev pub any_command_line : List ℕ → List (List ℕ) → OtherLine
any_command_line command words =
    if is_either (codes "-t") (codes "--table") command then behind_table command (command_line (first_of (drop 1 words)) (drop 2 words))
    else command_line command words

-- what the words do that stand behind counters, or without them
abbrev pub counted_line : List (List ℕ) → OtherLine
counted_line [] = Quiet
counted_line (command ∷ words) = any_command_line command words

-- by the first byte: `#` (35) begins a comment, `:` (58) a chain line, and `[` (91) counters
abbrev pub line_of_first : List ℕ → List (List ℕ) → OtherLine
line_of_first [] words = Moves []
line_of_first (byte ∷ name) words =
    if byte == 35 then Quiet else if byte == 58 then ChainLine name else if byte == 91 then counted_line words else counted_line ((byte ∷ name) ∷ words)

-- what the words of a line without a rule do
abbrev pub other_line : List (List ℕ) → OtherLine
other_line [] = Quiet
other_line (word ∷ words) = line_of_first word words

-- the name that a line gives to a chain
abbrev pub named : OtherLine → Option (List ℕ)
named Quiet = None
named (NewChain name) = Some name
named (ChainLine name) = Some name
named (Renames name command) = Some name
named (Moves command) = None

-- the word by which a line may move rules, or take some away: of a chain line, which empties its chain, the name
abbrev pub moving : List ReadRule → OtherLine → Option (List ℕ)
moving rules Quiet = None
moving rules (NewChain name) = None
moving rules (ChainLine name) = if list_any (is_in name) rules then Some name else None
moving rules (Renames name command) = Some command
moving rules (Moves command) = Some command
