-- A section of a restore: its lines, applied in order to a table of its own (iptables-restore(8)), and the names of its new chains.
use Rattle.std.specs.Prelude.{ℕ, ◌-◌, ◌==◌, ◌&&◌, ◌||◌, not, nat_lt, Bool, true, false, List, [], ◌∷◌, ◌++◌, find, length, take, drop, option_and_then, Option, Some, None, Result, Ok, Err, codes, if◌then◌else◌, refl}
use Rattle.std.specs.Cmp.Lexicographic.{slice_cmp}
use Rattle.std.specs.FinSet.{FinSet}
use Rattle.std.specs.Ordering.{nat_cmp}
use Rattle.std.specs.Coded.{Coded, code_by, coded×}
use Rattle.std.specs.Str.{bytes_eq}
use Rattle.std.specs.FinSet as set
use Rattle.fields.specs.text.Cut.{cut_at}
use Rattle.fields.specs.text.Words.{is_blank, words_of}
use Rattle.table.specs.chains.Table.{Table, TableView, emptied, is_built_in, has_chain}
use Rattle.table.specs.edits.Edits.{Edit, Flush, NewChain, SetPolicy, step}
use Rattle.table.specs.declared.fault.TableFault.{TableFault}
use Rattle.table.specs.declared.fault.TableFault.TheVariants as table
use Rattle.restore.specs.Sequence.{◌>>=◌, or_refused, refused_as, made_into}
use Rattle.restore.specs.commands.CommandForms.{edit_of, is_digits}
pub use Rattle.restore.specs.declared.fault.RestoreFault.{RestoreFault}
pub use Rattle.restore.specs.declared.fault.RestoreFault.TheVariants.{Command, Table as OfTable, NotAllowed, BadChainLine, DuplicateChainLine, EndBeforeCommit, Quoting, LineTooLong, NoMemory}
use Rattle.restore.specs.commands.Command as command

-- ---- Sets of names.

-- a set of names, each of any bytes
abbrev pub Names : Type 0
Names = FinSet (slice_cmp nat_cmp)

-- ---- A section of a restore: its lines, applied in order to a table of its own (iptables-restore(8)).

-- memory ran out in a call of the table
abbrev pub is_memory_of_table : TableFault → Bool
is_memory_of_table table.NoSuchChain = false
is_memory_of_table table.ChainExists = false
is_memory_of_table table.BadChainName = false
is_memory_of_table table.NumberOutOfRange = false
is_memory_of_table table.NoSuchRule = false
is_memory_of_table table.ChainNotEmpty = false
is_memory_of_table table.ChainReferenced = false
is_memory_of_table table.BuiltInChain = false
is_memory_of_table table.NotBuiltInChain = false
is_memory_of_table table.Loop = false
is_memory_of_table table.TargetMissing = false
is_memory_of_table table.TargetBuiltIn = false
is_memory_of_table table.InterfaceNotAllowed = false
is_memory_of_table table.ChainFull = false
is_memory_of_table table.TooManyChains = false
is_memory_of_table table.BadPolicy = false
is_memory_of_table table.NoMemory = true

-- memory ran out
abbrev pub is_out_of_memory : RestoreFault → Bool
is_out_of_memory (Command fault) = command.is_out_of_memory fault
is_out_of_memory (OfTable fault) = is_memory_of_table fault
is_out_of_memory NotAllowed = false
is_out_of_memory BadChainLine = false
is_out_of_memory DuplicateChainLine = false
is_out_of_memory EndBeforeCommit = false
is_out_of_memory Quoting = false
is_out_of_memory LineTooLong = false
is_out_of_memory NoMemory = true

-- a section so far: its table, and the names of its chain lines
pub record Section : Type 0 where
  pub table : Table
  pub named : Names

-- how a section is encoded: as its table and its names
abbrev pub section_code : Coded TableView → Coded Names → Coded Section
section_code table names =
    code_by (TableView × Names) (coded× table names) (λ (s : Section). (record { table = s.table; classifiers = [] }, s.named))
    (λ (p : TableView × Names). record { table = p.0.table; named = p.1 }) (λ s. refl)

-- a section begins with noflush from the table, and else from its policies alone (iptables-restore(8), -n)
abbrev pub begun : Bool → Table → Section
begun noflush t = record { table = if noflush then t else emptied t; named = set.empty }

-- the byte is `#` (35), or there is none
abbrev pub is_comment_at : Option ℕ → Bool
is_comment_at None = true
is_comment_at (Some b) = b == 35

-- a blank line or a comment: its first byte other than a blank or a tab is `#`, or there is none
abbrev pub is_quiet : List ℕ → Bool
is_quiet line = is_comment_at (find (λ b. not (is_blank b)) line)

-- the first byte is this one
abbrev pub begins_with : ℕ → List ℕ → Bool
begins_with byte [] = false
begins_with byte (b ∷ bs) = b == byte

-- two texts, each of one or more digits
abbrev pub are_both_digits : Option (List ℕ × List ℕ) → Bool
are_both_digits None = false
are_both_digits (Some p) = is_digits p.0 && is_digits p.1

-- what stands between the first and the last
abbrev pub inside : {A : Type 0} → List A → List A
inside text = drop 1 (take (length text - 1) text)

-- what stands between `[` and `]`
abbrev pub in_brackets : List ℕ → Option (List ℕ)
in_brackets text = if bytes_eq text (codes "[" ++ (inside text ++ codes "]")) then Some (inside text) else None

-- the text is `[p:b]`, each one or more digits (iptables-restore(8), -c)
abbrev pub is_counters : List ℕ → Bool
is_counters text = are_both_digits (option_and_then (cut_at 58) (in_brackets text))

-- what stands after the name in a chain line: a policy, perhaps with counters
abbrev pub policy_word : List (List ℕ) → Option (List ℕ)
policy_word (policy ∷ []) = Some policy
policy_word (policy ∷ (counters ∷ [])) = if is_counters counters then Some policy else None
policy_word words = None

-- the word is `-`, which gives no policy
abbrev pub is_none_word : List ℕ → Bool
is_none_word policy = bytes_eq policy (codes "-")

-- the word is ACCEPT or DROP
abbrev pub is_policy : List ℕ → Bool
is_policy text = bytes_eq text (codes "ACCEPT") || bytes_eq text (codes "DROP")

-- a built-in chain has ACCEPT, DROP or `-`; any other name has `-`
abbrev pub may_be_policy : List ℕ → List ℕ → Bool
may_be_policy name policy = is_none_word policy || is_built_in name && is_policy policy

-- the policy's word, if the chain may have it
abbrev pub checked_policy : List ℕ → Option (List ℕ) → Result (List ℕ) RestoreFault
checked_policy name None = Err BadChainLine
checked_policy name (Some policy) = if may_be_policy name policy then Ok policy else Err BadChainLine

-- what a chain line does: it sets the policy of a built-in chain, unless that is `-`; it empties a user chain that is there; and it
-- makes one that isn't
abbrev pub chain_edit : Table → List ℕ → List ℕ → Option Edit
chain_edit t name policy =
    if is_built_in name then (if is_none_word policy then None else Some (SetPolicy name policy))
    else if has_chain t name then Some (Flush name)
    else Some (NewChain name)

-- the edit of a chain line, which has to be the first of its name in the section
abbrev pub chain_line : Section → List ℕ → List ℕ → Result (Option Edit) RestoreFault
chain_line s name policy = if set.contains s.named name then Err DuplicateChainLine else Ok (chain_edit s.table name policy)

-- the words of a command, without the counters before them
abbrev pub without_counters : List (List ℕ) → List (List ℕ)
without_counters [] = []
without_counters (w ∷ ws) = if is_counters w then ws else w ∷ ws

-- what a line asks of the table, and the name of a chain line
pub record Asked : Type 0 where
  pub edit : Option Edit
  pub name : Option (List ℕ)

-- what a chain line asks
abbrev pub by_chain_line : List ℕ → Option Edit → Asked
by_chain_line name edit = record { edit = edit; name = Some name }

-- what a command asks
abbrev pub by_command : Edit → Asked
by_command edit = record { edit = Some edit; name = None }

-- what a blank line or a comment asks
abbrev pub asks_nothing : Asked
asks_nothing = record { edit = None; name = None }

-- what a chain line with this name and the words after it asks, or its fault
abbrev pub asked_of_chain : Section → List ℕ → List (List ℕ) → Result Asked RestoreFault
asked_of_chain s name words =
    checked_policy name (policy_word words) >>= λ policy. made_into (by_chain_line name) (chain_line s name policy)

-- what a command asks, with counters or without, or its fault
abbrev pub asked_of_command : List (List ℕ) → Result Asked RestoreFault
asked_of_command words = refused_as Command (made_into by_command (edit_of (length words) (without_counters words)))

-- what words ask, by the first of them: `*` isn't allowed in a section, `:` begins a chain line, anything else is a command
abbrev pub asked_by : Section → List (List ℕ) → Result Asked RestoreFault
asked_by s [] = Ok asks_nothing
asked_by s (w ∷ ws) =
    if begins_with 42 w then Err NotAllowed
    else if begins_with 58 w then asked_of_chain s (drop 1 w) ws
    else asked_of_command (w ∷ ws)

-- the line has more than 10,240 bytes
abbrev pub is_too_long : List ℕ → Bool
is_too_long line = nat_lt 10240 (length line)

-- what a line of a section asks, or its first fault; its length is tested first, and blank lines and comments ask nothing
unfoldable pub asked : Section → List ℕ → Result Asked RestoreFault
asked s line =
    if is_too_long line then Err LineTooLong
    else if is_quiet line then Ok asks_nothing
    else or_refused Quoting (words_of line) >>= λ words. asked_by s words

-- the table after the edit, if there is one
abbrev pub edited_by : Option Edit → Table → Result Table RestoreFault
edited_by None t = Ok t
edited_by (Some edit) t = refused_as OfTable (step edit t)

-- the names, with that of a chain line
abbrev pub with_name : Option (List ℕ) → Names → Names
with_name None names = names
with_name (Some name) names = set.insert names name

-- the section after what was asked
abbrev pub done : Section → Result Asked RestoreFault → Result Section RestoreFault
done s asks = asks >>= λ (a : Asked). edited_by a.edit s.table >>= λ t. Ok (record { table = t; named = with_name a.name s.named })

-- the section after a line, or the first fault
abbrev pub line_in : Section → List ℕ → Result Section RestoreFault
line_in s line = done s (asked s line)

-- the section after some lines, or the first fault
abbrev pub lines_in : Section → List (List ℕ) → Result Section RestoreFault
lines_in s [] = Ok s
lines_in s (line ∷ lines) = line_in s line >>= λ next. lines_in next lines

-- the table that the lines of one section give
abbrev pub transaction : Bool → Table → List (List ℕ) → Result Table RestoreFault
transaction noflush t lines = made_into (λ (s : Section). s.table) (lines_in (begun noflush t) lines)

-- memory ran out in the call
abbrev pub ran_out : {A : Type 0} → Result A RestoreFault → Bool
ran_out (Ok x) = false
ran_out (Err f) = is_out_of_memory f
