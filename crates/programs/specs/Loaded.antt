-- Why a program ends early, and what restoring a file into a session does, by its answer.
use Rattle.std.specs.Prelude.{◌≡◌, ◌⊎◌, ℕ, List, Bool, false, Option, Result, Ok, Err, IfSome, IsErrAnd, fold}
use Rattle.std.specs.Borrow.{Bor}
use Rattle.sessions.specs.declared.run.session.RunFault.{RunFault}
use Rattle.sessions.specs.declared.run.session.RunFault.TheVariants.{ReadFailed, WriteFailed}
use Rattle.sessions.specs.line.Outcome.{Line}
use Rattle.sessions.specs.run.Session.{restore_session, restore_start, step}
use Rattle.sessions.specs.run.Views.{table_of}
use Rattle.sessions.specs.declared.run.session.Session.{Session}
use Rattle.programs.specs.declared.fault.ProgramFault.{ProgramFault}
use Rattle.programs.specs.declared.fault.ProgramFault.TheVariants.{NoMemory, NotText, CannotOpen, InputFailed, OutputFailed, NoSubcommand, NoFile, CannotRead}

-- ---- Why a program ends early.

-- a run stopped: its reader is the program's input, its writer the output
abbrev pub run_stopped : RunFault → ProgramFault
run_stopped ReadFailed = InputFailed
run_stopped WriteFailed = OutputFailed

-- the file of this name can't be opened
abbrev pub IsUnopened : Bor (List ℕ) → ProgramFault → Type 0
IsUnopened file fault = (fault ≡ NoMemory) ⊎ (fault ≡ CannotOpen file)

-- the words can't be had
abbrev pub AreNoWords : ProgramFault → Type 0
AreNoWords fault = (fault ≡ NoMemory) ⊎ (fault ≡ NotText)

-- ---- What restoring a file into a session does, by its answer.

-- table and status are those of a restore of some bytes, all that are left where these are known, without `--noflush`, in place and
-- without a listing, where each line has a mark that says whether memory was refused to it
abbrev pub IsRestored : Option (List ℕ) → Session → ℕ → Session → Type 0
IsRestored left old status new = (bytes : List ℕ) × IfSome left (λ all. bytes ≡ all) × (marks : List Bool)
    × (let s = restore_session false false false (table_of old).table bytes marks in (status ≡ s.now.status) × ((table_of new).table ≡ s.now.table))

-- the table is that of some lines of such a restore
abbrev pub IsBegun : Session → Session → Type 0
IsBegun old new = (lines : List Line) × ((table_of new).table ≡ (fold step (restore_start false false (table_of old).table) lines).now.table)

-- a file of this name was restored; or it couldn't be read, or a fault not be written; or there was no memory to begin with
abbrev pub IsLoaded : Option (List ℕ) → Bor (List ℕ) → Session → Result ℕ ProgramFault → Session → Type 0
IsLoaded left file old (Ok status) new = IsRestored left old status new
IsLoaded left file old (Err NoMemory) new = new ≡ old
IsLoaded left file old (Err NotText) new = ⊥
IsLoaded left file old (Err NoSubcommand) new = ⊥
IsLoaded left file old (Err NoFile) new = ⊥
IsLoaded left file old (Err (CannotOpen name)) new = ⊥
IsLoaded left file old (Err (CannotRead name)) new = (name ≡ file) × IsBegun old new
IsLoaded left file old (Err InputFailed) new = ⊥
IsLoaded left file old (Err OutputFailed) new = IsBegun old new

-- the file of this name wasn't opened, and the session is as it was; or it was opened, and what it had left was restored
abbrev pub IsOpenedAndLoaded : {File : Type 0} → (File → Option (List ℕ)) → Bor (List ℕ) → Session → Result ℕ ProgramFault → Session → Type 0
IsOpenedAndLoaded {File} remaining file old result new =
    (IsErrAnd result (IsUnopened file) × (new ≡ old)) ⊎ ((opened : File) × IsLoaded (remaining opened) file old result new)
