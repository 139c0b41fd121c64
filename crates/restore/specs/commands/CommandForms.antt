-- The words that write a command: its name, and what it takes (iptables(8), SYNOPSIS and COMMANDS).
use Rattle.std.specs.Prelude.{ℕ, ◌-◌, ◌||◌, ◌&&◌, nat_lt, Bool, true, false, List, [], ◌∷◌, ◌++◌, map, find, length, slice_get, is_some}
use Rattle.std.specs.Prelude.{Option, Some, None, option_and_then, Result, Ok, Err, codes, if◌then◌else◌}
use Rattle.std.specs.Char.{is_ascii_digit}
use Rattle.std.specs.List.{list_all}
use Rattle.std.specs.Str.{bytes_eq}
use Rattle.fields.specs.text.Number.{number_of}
use Rattle.rules.specs.Sequence.{refusal_of}
use Rattle.rules.specs.rule.Rules as rules
use Rattle.rules.specs.reading.Steps.{rule_of}
use Rattle.rules.specs.declared.reading.fault.Refusal.{Refusal}
use Rattle.rules.specs.declared.reading.fault.Refusal.TheVariants as refusal
use Rattle.rules.specs.declared.reading.fault.RuleFault.TheVariants.{Refused}
use Rattle.table.specs.edits.Edits.{Edit, Append, Insert, Replace, DeleteAt, DeleteRule, Has, Flush, FlushAll, NewChain, DeleteChain}
use Rattle.table.specs.edits.Edits.{DeleteChains, SetPolicy, Rename}
use Rattle.restore.specs.Sequence.{◌>>=◌, or_refused, refused_as, made_into}
use Rattle.restore.specs.commands.Command.{Command, Change, ListRules, CommandFault, NoCommand, TwoCommands, WordCount, OtherTable}
use Rattle.restore.specs.declared.fault.CommandFault.TheVariants as fault

-- the command is refused for a value in it, or for its rule
abbrev pub refused : Refusal → CommandFault
refused r = fault.Rule (Refused r)

-- what reads the words that are left, up to the end of the line; the number is the place after the last of them
abbrev pub Reader : Type 0 → Type 0
Reader A = ℕ → List (List ℕ) → Result A CommandFault

-- what a command takes after its name: a word as it is, a number, or a rule
pub data Operand : Type 0 where
  Word : Operand
  Number : Operand
  Rule : Operand

-- the name of a chain: a word as it is
abbrev pub Chain : Operand
Chain = Word

-- a new name for a chain: a word as it is
abbrev pub Name : Operand
Name = Word

-- a policy: a word as it is, which the table judges
abbrev pub Policy : Operand
Policy = Word

-- a function that makes a value of operands, in their order
abbrev pub Takes : List Operand → Type 0 → Type 0
Takes [] A = A
Takes (Word ∷ os) A = List ℕ → Takes os A
Takes (Number ∷ os) A = ℕ → Takes os A
Takes (Rule ∷ os) A = rules.Rule → Takes os A

-- what these operands make of the words: each takes one word, a rule takes all that are left; else a word is missing, or one is
-- left over
abbrev pub takes : {A : Type 0} → (os : List Operand) → Takes os A → Reader A
takes [] made end [] = Ok made
takes [] made end (w ∷ ws) = Err WordCount
takes (Word ∷ os) make end [] = Err WordCount
takes (Word ∷ os) make end (w ∷ ws) = takes os (make w) end ws
takes (Number ∷ os) make end [] = Err WordCount
takes (Number ∷ os) make end (w ∷ ws) = or_refused (refused refusal.BadValue) (number_of w) >>= λ n. takes os (make n) end ws
takes (Rule ∷ os) make end words = refused_as refused (rule_of end words) >>= λ r. takes os (make r) end []

-- one or more digits
abbrev pub is_digits : List ℕ → Bool
is_digits text = nat_lt 0 (length text) && list_all is_ascii_digit text

-- the words fit the operands: none is missing, and a number is written in digits; a rule may have no words
abbrev pub fits : List Operand → List (List ℕ) → Bool
fits [] words = true
fits (Word ∷ os) [] = false
fits (Word ∷ os) (w ∷ ws) = fits os ws
fits (Number ∷ os) [] = false
fits (Number ∷ os) (w ∷ ws) = is_digits w && fits os ws
fits (Rule ∷ os) words = true

infix 5 if_fits◌then◌else◌
-- these operands where the words fit them, else the others
abbrev pub if_fits◌then◌else◌ : {A : Type 0} → (os : List Operand) → Takes os A → Reader A → Reader A
if_fits◌then◌else◌ os make others end words = if fits os words then takes os make end words else others end words

-- a command's short and long name, and what follows it
pub record CommandForm (A : Type 0) : Type 0 where
  pub short : List ℕ
  pub long : List ℕ
  pub follows : Reader A

-- a row of a table of commands
abbrev pub form : {A : Type 0} → List ℕ → List ℕ → Reader A → CommandForm A
form short long follows = record { short = short; long = long; follows = follows }

-- the commands that edit the table, one row each: the short and the long name, and what it takes (a chain, a number, a rule, a
-- name, a policy)
abbrev pub edits : List (CommandForm Edit)
edits =
    form (codes "-A") (codes "--append") (takes (Chain ∷ Rule ∷ []) Append)
    ∷ form (codes "-C") (codes "--check") (takes (Chain ∷ Rule ∷ []) Has)
    ∷ form (codes "-D") (codes "--delete") (if_fits Chain ∷ Number ∷ [] then DeleteAt else takes (Chain ∷ Rule ∷ []) DeleteRule)
    ∷ form (codes "-I") (codes "--insert") (if_fits Chain ∷ Number ∷ Rule ∷ [] then Insert else takes (Chain ∷ Rule ∷ []) (λ chain. Insert chain 1))
    ∷ form (codes "-R") (codes "--replace") (takes (Chain ∷ Number ∷ Rule ∷ []) Replace)
    ∷ form (codes "-F") (codes "--flush") (if_fits Chain ∷ [] then Flush else takes [] FlushAll)
    ∷ form (codes "-X") (codes "--delete-chain") (if_fits Chain ∷ [] then DeleteChain else takes [] DeleteChains)
    ∷ form (codes "-N") (codes "--new-chain") (takes (Name ∷ []) NewChain)
    ∷ form (codes "-P") (codes "--policy") (takes (Chain ∷ Policy ∷ []) SetPolicy)
    ∷ form (codes "-E") (codes "--rename-chain") (takes (Chain ∷ Name ∷ []) Rename)
    ∷ []

-- the row of an edit, as the row of a command
abbrev pub changing : CommandForm Edit → CommandForm Command
changing h = form h.short h.long (λ end words. made_into Change (h.follows end words))

-- all commands: those that edit the table, and `-S`
abbrev pub commands : List (CommandForm Command)
commands = map changing edits ++ form (codes "-S") (codes "--list-rules") (if_fits Chain ∷ [] then (λ chain. ListRules (Some chain)) else takes [] (ListRules None)) ∷ []

-- the word is the short or the long name
abbrev pub is_name_of : {A : Type 0} → List ℕ → CommandForm A → Bool
is_name_of w h = bytes_eq w h.short || bytes_eq w h.long

-- what follows a command's name; any other word is no command
abbrev pub followed : {A : Type 0} → Option (CommandForm A) → Reader A
followed None end words = Err NoCommand
followed (Some h) end words = h.follows end words

-- one of these commands
abbrev pub one_of : {A : Type 0} → List (CommandForm A) → Reader A
one_of forms end [] = Err NoCommand
one_of forms end (w ∷ ws) = followed (find (is_name_of w) forms) end ws

-- `-t` or `--table`, with a value
abbrev pub table : {A : Type 0} → Reader A → CommandForm A
table next = form (codes "-t") (codes "--table") next

-- the next word, as a value
abbrev pub value : {A : Type 0} → (List ℕ → Reader A) → Reader A
value next end [] = Err (refused refusal.ValueMissing)
value next end (w ∷ ws) = next w end ws

-- a second `-t` is refused
abbrev pub again : {A : Type 0} → CommandForm A
again = table (value (λ name end words. Err (refused refusal.RepeatedOption)))

-- the table has to be `filter`, and a command follows
abbrev pub named : {A : Type 0} → List (CommandForm A) → List ℕ → Reader A
named forms name = if bytes_eq name (codes "filter") then one_of (again ∷ forms) else (λ end words. Err OtherTable)

-- one of these commands, after `-t filter` or without
abbrev pub line_of : {A : Type 0} → List (CommandForm A) → Reader A
line_of forms = one_of (table (value (named forms)) ∷ forms)

-- the word is the name of a command
abbrev pub is_command : Option (List ℕ) → Bool
is_command None = false
is_command (Some w) = is_some (find (is_name_of w) commands)

-- the word at a place of the line, of which these are the last words
abbrev pub word_at : ℕ → List (List ℕ) → ℕ → Option (List ℕ)
word_at end words place = slice_get words (place - (end - length words))

-- the place of the unknown option, where that is the refusal
abbrev pub unknown_option : Refusal → Option ℕ
unknown_option (refusal.UnknownOption place) = Some place
unknown_option refusal.ValueMissing = None
unknown_option refusal.BadValue = None
unknown_option refusal.RepeatedOption = None
unknown_option refusal.InversionNotAllowed = None
unknown_option refusal.ProtocolNeeded = None
unknown_option refusal.UnknownMatch = None
unknown_option refusal.TooManyMatches = None
unknown_option refusal.JumpAndGoto = None
unknown_option refusal.TextTooLong = None
unknown_option refusal.OtherTarget = None
unknown_option refusal.MatchOptionMissing = None

-- the same, where a command is refused
abbrev pub unknown_in : CommandFault → Option ℕ
unknown_in NoCommand = None
unknown_in TwoCommands = None
unknown_in WordCount = None
unknown_in OtherTable = None
unknown_in (fault.Rule f) = option_and_then unknown_option (refusal_of f)

-- an unknown option that is a command's name is reported as a second command
abbrev pub or_second : ℕ → List (List ℕ) → CommandFault → CommandFault
or_second end words fault = if is_command (option_and_then (word_at end words) (unknown_in fault)) then TwoCommands else fault

-- the command that the words write, after `-t filter` or without, or the first fault
unfoldable pub command_of : Reader Command
command_of end words = refused_as (or_second end words) (line_of commands end words)

-- the edit that the words write (any command but `-S`), or the first fault
unfoldable pub edit_of : Reader Edit
edit_of end words = refused_as (or_second end words) (line_of edits end words)
