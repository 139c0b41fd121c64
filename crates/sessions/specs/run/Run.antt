-- What a run of a session, or a restore from the command line, did, whether or not its reader or its writer failed.
use Rattle.std.specs.Prelude.{◌≡◌, ◌⊎◌, ℕ, ◌+◌, ◌-◌, ◌^◌, ◌≤◌, min, Bool, List, [], ◌∷◌, ◌++◌, fold, if◌then◌else◌, Result, Ok, Err, Option, IfSome, IsTrue, IsFalse}
use Rattle.std.specs.Io.KnownBytes.{Appends, Consumes}
use Rattle.fields.specs.text.Tap.{IsBeginning}
use Rattle.fields.specs.text.Line.{EndsAt, lines_of, ended_lines}
use Rattle.table.specs.chains.Table.{TableView}
use Rattle.sessions.specs.line.Boxes.{makes_box, may_box}
use Rattle.sessions.specs.line.Outcome.{Line, has_ended}
use Rattle.sessions.specs.run.Session.{Kind, State, step, texts_of, whole_run}
pub use Rattle.sessions.specs.declared.run.session.RunFault.{RunFault}
pub use Rattle.sessions.specs.declared.run.session.RunFault.TheVariants.{ReadFailed, WriteFailed}

-- these lines lead from one state to another, and none is read after the run has ended
abbrev pub Lead : State → List Line → State → Type 0
Lead from [] to = to ≡ from
Lead from (line ∷ lines) to = IsFalse (has_ended from.now.mode) × Lead (step from line) lines to

-- the bytes are none, or end with a newline (10)
abbrev pub EndsLine : List ℕ → Type 0
EndsLine bytes = (bytes ≡ []) ⊎ ((front : List ℕ) × (bytes ≡ front ++ 10 ∷ []))

-- the lines are those of the bytes, each read whole: up to its newline, or up to the end of the input where that was met
pub record AreRead (lines : List Line) (bytes : List ℕ) (met_end : Type 0) : Type 0 where
  pub texts : texts_of lines ≡ lines_of bytes
  pub whole : EndsLine bytes ⊎ met_end

-- the run finished: it had ended, or met the end of the input; it wrote all that is printed, and its answer is the status
pub record Finished (start : State) (finish : State → State) (lines : List Line) (bytes : List ℕ) (met_end : Type 0) (written : List ℕ) (status : ℕ) : Type 0 where
  pub last : State
  pub leads : Lead start lines last
  pub read : AreRead lines bytes met_end
  pub done : IsTrue (has_ended last.now.mode) ⊎ met_end
  pub printed : written ≡ (finish last).printed
  pub answer : status ≡ (finish last).now.status

-- the run stopped before or in a line: it wrote the output of the lines that were read whole
pub record LineStopped (start : State) (lines : List Line) (bytes written : List ℕ) : Type 0 where
  pub last : State
  pub leads : Lead start lines last
  pub texts : texts_of lines ≡ ended_lines bytes
  pub going : IsFalse (has_ended last.now.mode)
  pub printed : written ≡ last.printed

-- the reader failed there
abbrev pub ReadStopped : State → List Line → List ℕ → List ℕ → Type 0
ReadStopped start lines bytes written = LineStopped start lines bytes written

-- the writer failed there: it was given the output of these lines, and failed to hand it on
abbrev pub HandStopped : State → List Line → List ℕ → List ℕ → Type 0
HandStopped start lines bytes written = LineStopped start lines bytes written

-- what was written contains all that was printed before, and no more than was printed after
pub record IsBetween (before after : State) (written : List ℕ) : Type 0 where
  pub all : IsBeginning before.printed written
  pub part : IsBeginning written after.printed

-- the writer failed in the reply to the last line: it wrote the output of the lines before, and a beginning of the reply
pub record ReplyStopped (start : State) (lines : List Line) (bytes : List ℕ) (met_end : Type 0) (written : List ℕ) : Type 0 where
  pub before : List Line
  pub line : Line
  pub first : State
  pub last : State
  pub split : lines ≡ before ++ line ∷ []
  pub leads : Lead start before first
  pub replies : Lead first (line ∷ []) last
  pub read : AreRead lines bytes met_end
  pub between : IsBetween first last written

-- the writer failed in what is printed at the end of the run: it wrote the output of all lines, and a beginning of that
pub record EndStopped (start : State) (finish : State → State) (lines : List Line) (bytes : List ℕ) (met_end : Type 0) (written : List ℕ) : Type 0 where
  pub last : State
  pub leads : Lead start lines last
  pub read : AreRead lines bytes met_end
  pub done : IsTrue (has_ended last.now.mode) ⊎ met_end
  pub between : IsBetween last (finish last) written

-- what a run did that read these bytes as these lines and wrote these bytes, by its answer. With a status it printed everything;
-- after a failed read, the output of the lines read whole; after a failed write, the output of the lines before and a beginning of
-- the last reply, or the output of the lines read whole, or that of all lines and a beginning of what is printed at the end
abbrev pub Ran : State → (State → State) → List Line → List ℕ → Type 0 → List ℕ → Result ℕ RunFault → Type 0
Ran start finish lines bytes met_end written (Ok status) = Finished start finish lines bytes met_end written status
Ran start finish lines bytes met_end written (Err ReadFailed) = ReadStopped start lines bytes written
Ran start finish lines bytes met_end written (Err WriteFailed) =
    ReplyStopped start lines bytes met_end written ⊎ HandStopped start lines bytes written ⊎ EndStopped start finish lines bytes met_end written

-- what is the case before or after a run: the bytes that the reader has left and those that the writer was given, where they are
-- known, the session's table, and how many boxes were made
pub record Moment : Type 0 where
  pub left : Option (List ℕ)
  pub given : Option (List ℕ)
  pub table : TableView
  pub boxes : ℕ

-- of how many of some lines this holds, each in the state that the lines before it lead to
abbrev pub count_lines : (State → Line → Bool) → State → List Line → ℕ
count_lines holds s [] = 0
count_lines holds s (line ∷ lines) = (if holds s line then 1 else 0) + count_lines holds (step s line) lines

-- in this state the line may make a box
abbrev pub may_make : State → Line → Bool
may_make s line = may_box s.now.mode line.text

-- in this state the line makes a box
abbrev pub makes : State → Line → Bool
makes s line = makes_box s.now.table s.now.mode line

-- the lines made boxes, as counted before and after them: one for each line that puts a rule into a chain, up to the greatest count,
-- and at most one for each that asks for that
pub record AreBoxed (start : State) (lines : List Line) (old new : ℕ) : Type 0 where
  pub each : min (old + count_lines makes start lines) (2 ^ 64 - 1) ≤ new
  pub few : new ≤ old + count_lines may_make start lines

-- a run of these lines from one moment to another: the bytes that it read and wrote, what it did, the table that it left, which is
-- that of the lines, and the boxes that it made
pub record Runs (start : State) (finish : State → State) (lines : List Line) (before : Moment) (result : Result ℕ RunFault) (after : Moment) : Type 0 where
  pub bytes : List ℕ
  pub written : List ℕ
  pub reads : Consumes before.left after.left bytes
  pub writes : Appends before.given after.given written
  pub ran : Ran start finish lines bytes (EndsAt before.left after.left) written result
  pub table : after.table.table ≡ (fold step start lines).now.table
  pub boxes : AreBoxed start lines before.boxes after.boxes

-- a run with a status: with these marks it wrote, answered and left what is said of all bytes of the input
abbrev pub Whole : Kind → List Bool → Moment → ℕ → Moment → Type 0
Whole kind marks before status after = IfSome before.left (λ bytes.
    let s = whole_run kind before.table.table bytes marks in Appends before.given after.given s.printed × (status ≡ s.now.status) × (after.table.table ≡ s.now.table))
