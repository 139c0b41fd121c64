-- What both programs' command lines have in common: their shape, what a parse of the words by `clap` gives, and what is answered to a line
-- that gives no task.
use Rattle.std.specs.Prelude.{◌≡◌, ◌≢◌, ⊤, Bool, true, false, codes, List, [], Option, Some, None, ℕ, Result, Ok, Err}
use Rattle.std.specs.Str.{bytes_eq}
use Rattle.clap.specs.Words.{App, IsAmong, Kinds, Row, Rule, Text, fault_of, kind_of, new_rule, subcommand_of}
use Rattle.clap.specs.declared.builder.action.ArgAction.TheVariants.{SetTrue}
use Rattle.clap.specs.declared.error.Error.{Error}
use Rattle.clap.specs.declared.error.kind.ErrorKind.TheVariants.{OutOfMemory, DisplayVersion}
use Rattle.programs.specs.declared.line.fault.LineFault.{LineFault}
use Rattle.programs.specs.declared.fault.ProgramFault.{ProgramFault}
use Rattle.programs.specs.declared.line.fault.LineFault.TheVariants as faults
use Rattle.programs.specs.declared.fault.ProgramFault.TheVariants as programs

-- ---- What both programs' command lines have in common: their shape, and what a parse of the words by `clap` gives.

-- its words are those after the program's name, `help` is no subcommand, and it says its version where it is asked for it
abbrev pub as_program : App → App
as_program a = record a { top = record a.top { no_binary_name = true; disable_help_subcommand = true; has_version = true } }

-- a flag `--name`
abbrev pub flag_rule : Text → Rule
flag_rule name = record (new_rule name) { long = Some name; action = Some SetTrue }

-- the flag was given
abbrev pub is_true : Option Text → Bool
is_true None = false
is_true (Some t) = bytes_eq t (codes "true")

-- the fault stands for `clap`'s error
abbrev pub StandsFor : Error → LineFault → Type 0
StandsFor error faults.NoMemory = kind_of error ≡ OutOfMemory
StandsFor error faults.NoSubcommand = ⊥
StandsFor error faults.NoFile = ⊥
StandsFor error (faults.Refused kept) = (kept ≡ error) × (kind_of error ≢ OutOfMemory)

-- the fault keeps an error of one of these kinds, or tells that memory was refused
abbrev pub IsRefusal : Kinds → LineFault → Type 0
IsRefusal kinds faults.NoMemory = ⊤
IsRefusal kinds faults.NoSubcommand = ⊥
IsRefusal kinds faults.NoFile = ⊥
IsRefusal kinds (faults.Refused error) = IsAmong (kind_of error) kinds

-- `clap` takes the words, and of the subcommand that they name this holds: of its name and of what was found of its options
abbrev pub Meets : App → List Text → (Text → List Row → Type 0) → Type 0
Meets program words Holds = (fault_of program words ≡ [])
    × (met : Text × List Row) × (subcommand_of program words ≡ Some met) × Holds met.0 met.1

-- the words ask the program for this: `clap` takes them, and it is what their subcommand makes of its options
abbrev pub AsksFor : {A : Type 0} → App → (Text → List Row → A → Type 0) → List Text → A → Type 0
AsksFor program IsOf words a = Meets program words (λ name rows. IsOf name rows a)

-- why the words ask the program for nothing: `clap` takes them and they name no subcommand, or one that lacks a file, or it
-- refuses them with an error of this kind; of memory nothing is said
abbrev pub IsFaultOn : App → (Text → List Row → Type 0) → List Text → LineFault → Type 0
IsFaultOn program LacksFile words faults.NoMemory = ⊤
IsFaultOn program LacksFile words faults.NoSubcommand = (fault_of program words ≡ []) × (subcommand_of program words ≡ None)
IsFaultOn program LacksFile words faults.NoFile = Meets program words LacksFile
IsFaultOn program LacksFile words (faults.Refused error) = IsAmong (kind_of error) (fault_of program words)

-- ---- What is answered to a line that gives no task.

-- the words ask for the version
abbrev pub AsksVersion : Error → Type 0
AsksVersion error = kind_of error ≡ DisplayVersion

-- status 0 for the version, if it could be written; 2 for any other message of `clap`
pub data IsReplied : Error → Result ℕ ProgramFault → Type 0 where
  version : (error : Error) → AsksVersion error → IsReplied error (Ok 0)
  unwritten : (error : Error) → AsksVersion error → IsReplied error (Err programs.OutputFailed)
  refused : (error : Error) → (AsksVersion error → ⊥) → IsReplied error (Ok 2)

-- the fault of the line ends the program, or `clap`'s message is the reply
abbrev pub IsAnswered : LineFault → Result ℕ ProgramFault → Type 0
IsAnswered faults.NoMemory result = result ≡ Err programs.NoMemory
IsAnswered faults.NoSubcommand result = result ≡ Err programs.NoSubcommand
IsAnswered faults.NoFile result = result ≡ Err programs.NoFile
IsAnswered (faults.Refused error) result = IsReplied error result
