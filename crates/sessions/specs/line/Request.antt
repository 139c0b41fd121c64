-- What a line of a session asks for, by its first word (iptables(8), iptables-save(8)), and how a restore begins: `iptables-restore [-n]
-- [-t] <<WORD` (iptables-restore(8)).
use Rattle.std.specs.Prelude.{ℕ, ◌||◌, ◌&&◌, nat_lt, nat_le, Bool, true, false, List, [], ◌∷◌, length, take, drop, Option, Some, None, option_and_then, codes, if◌then◌else◌, find, slice_index_or, Result, Ok, Err}
use Rattle.std.specs.Str.{bytes_eq}
use Rattle.fields.specs.Packet.{PacketView, packet_of}
use Rattle.fields.specs.text.Words.{words_of}
use Rattle.restore.specs.Sequence.{◌>>=◌, or_refused, refused_as, made_into}
use Rattle.restore.specs.commands.Command.{Command}
use Rattle.restore.specs.declared.fault.CommandFault.TheVariants.{WordCount}
use Rattle.restore.specs.declared.fault.RestoreFault.TheVariants.{Quoting, LineTooLong}
use Rattle.restore.specs.commands.CommandForms.{command_of}
use Rattle.restore.specs.sections.Section.{is_quiet, is_too_long}
use Rattle.restore.specs.declared.fault.RestoreFault.TheVariants as restore
use Rattle.sessions.specs.line.Fault.{Fault, Line, Packet, UnknownLine, BadRestoreLine, of_line}
-- the options of a restore: whether it keeps the table, and whether it puts none in place
pub use Rattle.sessions.specs.declared.line.opening.Options.{Options}
-- a restore's options, and the line that ends it
pub use Rattle.sessions.specs.declared.line.opening.Opening.{Opening}

-- ---- How a restore begins among the lines of a session: `iptables-restore [-n] [-t] <<WORD` (iptables-restore(8), -n and -t).

-- no option is given
abbrev pub no_option : Options
no_option = record { noflush = false; test = false }

-- the option that a word is
abbrev pub option_of : List ℕ → Option Options
option_of w =
    if bytes_eq w (codes "-n") || bytes_eq w (codes "--noflush") then Some (record { noflush = true; test = false })
    else if bytes_eq w (codes "-t") || bytes_eq w (codes "--test") then Some (record { noflush = false; test = true })
    else None

-- two options, unless one is given twice
abbrev pub joined : Options → Options → Option Options
joined a b =
    if a.noflush && b.noflush || a.test && b.test then None
    else Some (record { noflush = a.noflush || b.noflush; test = a.test || b.test })

-- the options of two words
abbrev pub options_of : List ℕ → List ℕ → Option Options
options_of v w = option_and_then (λ a. option_and_then (joined a) (option_of w)) (option_of v)

-- `<<` and the 1 to 64 bytes of the end line
abbrev pub is_end_word : List ℕ → Bool
is_end_word w = bytes_eq (take 2 w) (codes "<<") && nat_lt 2 (length w) && nat_le (length w) 66

-- these options, with the end line of a word
abbrev pub ended_by : List ℕ → Options → Option Opening
ended_by w options = if is_end_word w then Some (record { options = options; word = drop 2 w }) else None

-- what the words after `iptables-restore` say: no option, one, or both in either order, and then `<<` with the 1 to 64 bytes of the
-- end line
abbrev pub opening_of : List (List ℕ) → Option Opening
opening_of (last ∷ []) = ended_by last no_option
opening_of (w ∷ (last ∷ [])) = option_and_then (ended_by last) (option_of w)
opening_of (v ∷ (w ∷ (last ∷ []))) = option_and_then (ended_by last) (options_of v w)
opening_of words = None

-- ---- What a line of a session asks for (iptables(8), iptables-save(8), iptables-restore(8)): its first word says of which kind it is, and
-- the words after it are read by that.

-- what a line asks for: nothing; a command; a listing; a restore that the next lines hold; the verdict of a packet; or the
-- classifier of a chain
pub data Request : Type 0 where
  Nothing : Request
  Run : Command → Request
  Save : Request
  Open : Opening → Request
  Ask : PacketView → Request
  Show : List ℕ → Request

-- the fault of a wrong number of words
abbrev pub wrong_count : {A : Type 0} → Result A Fault
wrong_count = Err (Line (restore.Command WordCount))

-- no word stands after `iptables-save`
abbrev pub save : List (List ℕ) → Result Request Fault
save [] = Ok Save
save (w ∷ ws) = wrong_count

-- one word stands after `lines`, the name of a chain
abbrev pub show : List (List ℕ) → Result Request Fault
show (name ∷ []) = Ok (Show name)
show words = wrong_count

-- the words after `iptables`, which are a command (iptables(8)); the number is the place after the last of them
abbrev pub run : ℕ → List (List ℕ) → Result Request Fault
run end words = refused_as (λ fault. of_line (restore.Command fault)) (made_into Run (command_of end words))

-- the words after `iptables-restore`
abbrev pub opening : List (List ℕ) → Result Request Fault
opening words = made_into Open (or_refused BadRestoreLine (opening_of words))

-- the words after `packet`
abbrev pub ask : List (List ℕ) → Result Request Fault
ask words = refused_as Packet (made_into Ask (packet_of words))

-- a line's first word, and what reads the words after it
pub record Kind : Type 0 where
  pub name : List ℕ
  pub reads : ℕ → List (List ℕ) → Result Request Fault

-- a row of the table of kinds
abbrev pub kind : List ℕ → (ℕ → List (List ℕ) → Result Request Fault) → Kind
kind name reads = record { name = name; reads = reads }

-- the table of kinds: `iptables`, `iptables-save`, `iptables-restore`, `packet` and `lines`
abbrev pub kinds : List Kind
kinds =
    kind (codes "iptables") run
    ∷ kind (codes "iptables-save") (λ end words. save words)
    ∷ kind (codes "iptables-restore") (λ end words. opening words)
    ∷ kind (codes "packet") (λ end words. ask words)
    ∷ kind (codes "lines") (λ end words. show words)
    ∷ []

-- what reads the words after this first word; any other first word is a fault
abbrev pub read_by : Option Kind → ℕ → List (List ℕ) → Result Request Fault
read_by None end words = Err UnknownLine
read_by (Some k) end words = k.reads end words

-- what words ask for, by the first of them
unfoldable pub request_of : List (List ℕ) → Result Request Fault
request_of words = read_by (find (λ (k : Kind). bytes_eq (slice_index_or words 0 []) k.name) kinds) (length words) (drop 1 words)

-- what a line asks for, or its fault: its length is tested first, then whether it is blank or a comment, then its quoting, then its
-- kind
unfoldable pub request_on : List ℕ → Result Request Fault
request_on line =
    if is_too_long line then Err (Line LineTooLong)
    else if is_quiet line then Ok Nothing
    else or_refused (Line Quoting) (words_of line) >>= request_of
