-- What a request of the code asks for and what came of it, and what came of lines that were read and executed, and of the end of the input.
use Rattle.std.specs.Prelude.{◌≡◌, ◌⊎◌, Err, ℕ, Bool, List, [], ◌++◌, Option, Result, Ok, MatchResult, IsTrue}
use Rattle.std.specs.Io.KnownBytes.{Appends, Consumes}
use Rattle.table.specs.chains.Table.{TableView, Table}
use Rattle.fields.specs.declared.text.tap.Tap.{Tap}
use Rattle.fields.specs.text.Line.{EndsAt}
use Rattle.fields.specs.text.Tap.{Wrote, Stopped, Puts}
use Rattle.table.specs.edits.Edits.{MakesOneBox}
use Rattle.restore.specs.commands.Command as command
use Rattle.sessions.specs.line.Fault.{NoMemory}
use Rattle.sessions.specs.line.Request.{Request, Run, Save, Open, Ask, Show}
use Rattle.sessions.specs.line.Executed.{IsOutcome}
use Rattle.sessions.specs.line.Outcome.{Mode, Outcome, after_fault, Line, has_ended}
use Rattle.sessions.specs.run.Session.{State, step}
use Rattle.sessions.specs.run.Run.{AreBoxed, AreRead, Lead, makes, Moment, RunFault, Runs, WriteFailed}
use Rattle.sessions.specs.declared.run.session.Progress.{Progress}
use Rattle.sessions.specs.declared.line.request.Request as code
use Rattle.sessions.specs.declared.line.request.Request.TheVariants as requests
use Rattle.sessions.specs.declared.line.outcome.Outcome as made

-- ---- What a request of the code asks for, and what came of it.

-- what a request of the code asks for
abbrev pub meaning : code.Request → Request
meaning (requests.Run c) = Run (command.meaning c)
meaning requests.Save = Save
meaning (requests.Open opening) = Open opening
meaning (requests.Ask packet) = Ask packet
meaning (requests.Show name) = Show name.now

-- memory was refused, and nothing was changed
pub record RanOut (from : Mode) (old new : TableView) (t : made.Outcome) : Type 0 where
  pub table : new ≡ old
  pub mode : t.mode ≡ after_fault from
  pub reply : t.reply ≡ Err NoMemory

-- what the definition says came, or memory was refused
abbrev pub Comes : Outcome → Mode → TableView → TableView → made.Outcome → Type 0
Comes said mode old new t = IsOutcome said new t ⊎ RanOut mode old new t

-- ---- What came of lines that were read and executed, and of the end of the input.

-- the state of the definition, where this was printed
abbrev pub state_of : Table → Progress → List ℕ → State
state_of t p printed = record {
  now = record { table = t; mode = p.mode; number = p.number; status = p.status };
  printed = printed;
}

-- a line was executed as the definition says, for some mark: its reply was written, or the writer failed in it; and where it makes
-- a box, one was made
abbrev pub ExecutesLine : {W E : Type 0} → (W → Option (List ℕ)) → Table → Progress → ℕ → Table → Progress → ℕ → Tap W → Tap W → Result (Unit {0}) E → List ℕ → Type 0
ExecutesLine contents t p boxes t' p' boxes' o o' r text =
    (refused : Bool) × (reply : List ℕ)
    × ((printed : List ℕ) → step (state_of t p printed) (record { text = text; refused = refused }) ≡ state_of t' p' (printed ++ reply))
    × Puts contents o o' r reply
    × (IsTrue (makes (state_of t p []) (record { text = text; refused = refused })) → MakesOneBox boxes boxes')

-- All lines that were read were executed, up to the input's end or to the fault that ends a run.
pub record ExecutedAll (start : State) (before after : Moment) (p : Progress) : Type 0 where
  pub bytes : List ℕ
  pub lines : List Line
  pub printed : List ℕ
  pub reads : Consumes before.left after.left bytes
  pub leads : Lead start lines (state_of after.table.table p printed)
  pub read : AreRead lines bytes (EndsAt before.left after.left)
  pub done : IsTrue (has_ended p.mode) ⊎ EndsAt before.left after.left
  pub writes : Appends before.given after.given printed
  pub boxes : AreBoxed start lines before.boxes after.boxes

-- what came of lines, by the answer: a run that failed is over, whatever its end would have been
abbrev pub ExecutesLines : State → Moment → Result (Unit {0}) RunFault → Moment → Progress → Type 0
ExecutesLines start before (Ok _) after p = ExecutedAll start before after p
ExecutesLines start before (Err fault) after p = (finish : State → State) → (lines : List Line) × Runs start finish lines before (Err fault) after

-- this reply was written and this status answered, or the writer failed in the reply
abbrev pub Finishes : {W : Type 0} → (W → Option (List ℕ)) → ℕ → List ℕ → Tap W → Tap W → Result ℕ RunFault → Type 0
Finishes contents status reply o o' r = MatchResult r
    (λ answer. (answer ≡ status) × Wrote contents o o' reply)
    (λ fault. (fault ≡ WriteFailed) × Stopped contents o o' reply)

-- The end of the input was what the definition says: it prints this reply, leaves the table and gives this status.
pub record Ends {W : Type 0} (contents : W → Option (List ℕ)) (finish : State → State) (t : Table) (p : Progress) (o o' : Tap W) (r : Result ℕ RunFault) : Type 0 where
  pub reply : List ℕ
  pub status : ℕ
  pub printed : (before : List ℕ) → (finish (state_of t p before)).printed ≡ before ++ reply
  pub answer : (before : List ℕ) → (finish (state_of t p before)).now.status ≡ status
  pub finishes : Finishes contents status reply o o' r
