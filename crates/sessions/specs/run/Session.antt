-- Sessions, and restores from the command line: one step for each line (iptables-restore(8)).
use Rattle.std.specs.Prelude.{ℕ, ◌+◌, Bool, false, List, [], ◌∷◌, ◌++◌, fold, map, None}
use Rattle.fields.specs.text.Line.{lines_of}
use Rattle.table.specs.chains.Table.{Table}
use Rattle.restore.specs.sections.Restore.{begun_restore}
use Rattle.sessions.specs.line.Outcome.{Line, Outcome, outcome, last_outcome, restore_end, reply_text, status_after}
use Rattle.sessions.specs.declared.line.mode.Mode.{Mode}
use Rattle.sessions.specs.declared.line.mode.Mode.TheVariants.{Outside, InRestore}

-- the table, where the next line stands, how many lines there were, and the status so far
pub record Standing : Type 0 where
  pub table : Table
  pub mode : Mode
  pub number : ℕ
  pub status : ℕ

-- how a session stands after some lines, and what was printed
pub record State : Type 0 where
  pub now : Standing
  pub printed : List ℕ

-- the state after the outcome of line n
abbrev pub after : State → ℕ → Outcome → State
after s n t = record {
  now = record { table = t.table; mode = t.mode; number = n; status = status_after s.now.status t.reply };
  printed = s.printed ++ reply_text n t.reply;
}

-- the state after one more line: its number is counted, its outcome takes effect, its reply is put after what was printed, and the
-- status is that of the first fault
abbrev pub step : State → Line → State
step s line = after s (s.now.number + 1) (outcome s.now.table s.now.mode line)

-- the state before the first line
abbrev pub begun : Table → Mode → State
begun t mode = record { now = record { table = t; mode = mode; number = 0; status = 0 }; printed = [] }

-- a session begins outside of restores
abbrev pub session_start : Table → State
session_start t = begun t Outside

-- the end of a session's input
abbrev pub session_finish : State → State
session_finish s = after s s.now.number (last_outcome s.now.table s.now.mode)

-- a restore from the command line: all lines are the restore's, and none is its end line
abbrev pub restore_start : Bool → Bool → Table → State
restore_start noflush test t = begun t (InRestore None (begun_restore noflush test))

-- the end of the input of such a restore
abbrev pub restore_finish : Bool → State → State
restore_finish list s = after s s.now.number (restore_end list s.now.table s.now.mode)

-- the texts of lines
abbrev pub texts_of : List Line → List (List ℕ)
texts_of lines = map (λ (line : Line). line.text) lines

-- texts as lines, with these marks; where a mark is missing it is false
abbrev pub marked : List (List ℕ) → List Bool → List Line
marked [] marks = []
marked (text ∷ texts) [] = record { text = text; refused = false } ∷ marked texts []
marked (text ∷ texts) (mark ∷ marks) = record { text = text; refused = mark } ∷ marked texts marks

-- the state after some lines
abbrev pub play : State → List (List ℕ) → List Bool → State
play s texts marks = fold step s (marked texts marks)

-- a whole session: the lines of the bytes, each with its mark, and then the end of the input
abbrev pub session : Table → List ℕ → List Bool → State
session t bytes marks = session_finish (play (session_start t) (lines_of bytes) marks)

-- a whole restore from the command line
abbrev pub restore_session : Bool → Bool → Bool → Table → List ℕ → List Bool → State
restore_session noflush test list t bytes marks = restore_finish list (play (restore_start noflush test t) (lines_of bytes) marks)

-- the marks of lines
abbrev pub marks_of : List Line → List Bool
marks_of lines = map (λ (line : Line). line.refused) lines

-- a kind of run: a session's lines, or a restore from the command line with its options noflush and test and whether it prints the
-- listing
pub data Kind : Type 0 where
  OfSession : Kind
  OfRestore : Bool → Bool → Bool → Kind

-- where a run of this kind begins
abbrev pub start_of : Kind → Table → State
start_of OfSession t = session_start t
start_of (OfRestore noflush test list) t = restore_start noflush test t

-- what the end of its input does
abbrev pub finish_of : Kind → State → State
finish_of OfSession = session_finish
finish_of (OfRestore noflush test list) = restore_finish list

-- a whole run of this kind
abbrev pub whole_run : Kind → Table → List ℕ → List Bool → State
whole_run OfSession t bytes marks = session t bytes marks
whole_run (OfRestore noflush test list) t bytes marks = restore_session noflush test list t bytes marks
