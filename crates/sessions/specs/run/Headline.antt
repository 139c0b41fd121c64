-- After any list of commands and restores, in one run or in several, the chains are those that the accepted ones give by plain list edits,
-- every chain's classifier is the one built by restoring the present listing into an empty table, and every packet's verdict and trail are
-- those of walking the rules in order; a refused command or transaction changes nothing.
use Rattle.std.specs.Prelude.{◌≡◌, ◌⊎◌, ℕ, ◌+◌, List, ◌∷◌, ◌++◌, Option, Result, Ok, Err, false, IfOk, IfSome, IsFalse, []}
use Rattle.fields.specs.Packet.{PacketView}
use Rattle.fields.specs.text.Line.{lines_of}
use Rattle.fields.specs.text.Tap.{IsBeginning}
use Rattle.table.specs.chains.Sound.{IsSound}
use Rattle.table.specs.chains.Table.{AreClassified, Table, TableView, empty_table}
use Rattle.table.specs.declared.verdict.Verdict.{Verdict}
use Rattle.table.specs.declared.walk.trail.Trail.{Trail}
use Rattle.table.specs.walk.Walk.{Shows, walk}
use Rattle.restore.specs.Listing.{listing, RestoresItself}
use Rattle.restore.specs.sections.Restore.{restored}
use Rattle.restore.specs.Changes.{changed_by, Change}
use Rattle.sessions.specs.declared.line.fault.Fault.{Fault}
use Rattle.sessions.specs.line.Fault.{fault_line}
use Rattle.sessions.specs.line.Request.{Ask, request_on}
use Rattle.sessions.specs.line.Outcome.{Line, Says, Fails, has_ended, outcome}
use Rattle.sessions.specs.declared.line.mode.Mode.TheVariants.{Outside}
use Rattle.sessions.specs.Replies.{packet_reply}
use Rattle.sessions.specs.run.Run.{Lead, Moment, ReadFailed, RunFault, Runs, Whole, WriteFailed}
use Rattle.sessions.specs.run.Session.{Kind, State, finish_of, marks_of, start_of, step}
use Rattle.sessions.specs.run.Accepted.{accepted}

-- ---- After any list of commands and restores the chains are those that the accepted ones give by plain list edits, every chain's
-- classifier is the one built by restoring the present listing into an empty table, and every packet's verdict and trail are those of
-- walking the rules in order; a refused command or transaction changes nothing.

-- what a run did: the lines that it executed, what it wrote, and its answer
pub record Done : Type 0 where
  pub lines : List Line
  pub written : List ℕ
  pub answer : Result ℕ RunFault

-- what was printed up to some line was written; where the writer failed, perhaps only a beginning of it
abbrev pub IsWritten : Result ℕ RunFault → List ℕ → List ℕ → Type 0
IsWritten (Ok status) printed written = IsBeginning printed written
IsWritten (Err ReadFailed) printed written = IsBeginning printed written
IsWritten (Err WriteFailed) printed written = IsBeginning printed written ⊎ IsBeginning written printed

-- a line of a run, and the state in which it was read, to which the lines before it led
pub record IsReadIn (start : State) (lines : List Line) (s : State) (line : Line) : Type 0 where
  pub before : List Line
  pub rest : List Line
  pub split : lines ≡ before ++ line ∷ rest
  pub leads : Lead start before s
  pub going : IsFalse (has_ended s.now.mode)

-- a session in this state shows this table, with the classifiers of its chains
abbrev pub IsShownIn : State → TableView → Type 0
IsShownIn s t = (t.table ≡ s.now.table) × AreClassified t.table.chains t.classifiers

-- the lines of a run led to a state that shows this, and none was read after the run had ended
abbrev pub LeadTo : State → List Line → TableView → Type 0
LeadTo start lines t = (last : State) × Lead start lines last × IsShownIn last t

-- of every refused line of a run: it left the table and its classifiers as they were, and its fault was written after what was
-- printed before
abbrev pub RefusedChangedNothing : State → Done → Type 0
RefusedChangedNothing start done =
    (s : State) (line : Line) (fault : Fault) (old new : TableView) → IsReadIn start done.lines s line → (outcome s.now.table s.now.mode line).reply ≡ Fails fault
    → IsShownIn s old → IsShownIn (step s line) new
    → (new ≡ old) × IsWritten done.answer (s.printed ++ fault_line (s.now.number + 1) fault) done.written

-- of every line of a run that asked for a packet, outside of restores, and wasn't refused: its reply was the walk through the rules
-- in order, and it was written after what was printed before
abbrev pub PacketsWereWalked : State → Done → Type 0
PacketsWereWalked start done =
    (s : State) (line : Line) (packet : PacketView) (text : List ℕ) → IsReadIn start done.lines s line
    → s.now.mode ≡ Outside → request_on line.text ≡ Ok (Ask packet) → (outcome s.now.table s.now.mode line).reply ≡ Says text
    → (text ≡ packet_reply s.now.table packet) × IsWritten done.answer (s.printed ++ text) done.written

-- a table that a restore of the listing into an empty table gives has these classifiers
abbrev pub RestoresClassifiers : TableView → Type 0
RestoresClassifiers t =
    (made : TableView) → AreClassified made.table.chains made.classifiers → restored false false empty_table (lines_of (listing t.table)) ≡ Ok made.table → made ≡ t

-- what holds of every table that a session shows
pub record Stands (t : TableView) : Type 0 where
  -- it is a sound table
  pub sound : IsSound t.table
  -- each chain's classifier is that of its rules
  pub classified : AreClassified t.table.chains t.classifiers
  -- its listing is read from the empty table without a refusal, as an equal table
  pub restores : RestoresItself t.table
  -- a table that this restore gives, with the classifiers of its rules, has these classifiers
  pub classifiers : RestoresClassifiers t

-- what the calls `verdict` and `trail` answer of a packet: its verdict, and its trail unless memory for that was refused
pub record Answers (t : TableView) (packet : PacketView) (verdict : Verdict) (trail : Option Trail) : Type 0 where
  pub decides : verdict ≡ (walk t.table packet).verdict
  pub shows : IfSome trail (Shows t.table.chains (walk t.table packet))

-- whatever a table answers of any packet is the walk through the rules of these chains in order
abbrev pub AnswersByWalks : Table → TableView → Type 0
AnswersByWalks chains t =
    (packet : PacketView) (verdict : Verdict) (trail : Option Trail) → Answers t packet verdict trail
    → (verdict ≡ (walk chains packet).verdict) × IfSome trail (Shows chains.chains (walk chains packet))

-- what a run left of a session's table, by the lines that it executed
pub record Headline (start : State) (done : Done) (old new : TableView) : Type 0 where
  -- the table is the one to which the lines led
  pub reached : LeadTo start done.lines new
  -- the table, policies included, is the old one with the accepted changes made to it in order, as plain list edits
  pub chains : new.table ≡ changed_by old.table (accepted start done.lines)
  -- each chain's classifier is that of its rules, and the one that restoring the present listing builds
  pub stands : Stands new
  -- what the table answers of any packet is the walk through these rules in order
  pub walks : AnswersByWalks (changed_by old.table (accepted start done.lines)) new
  -- the reply to each packet that a line asked for was the walk through the table as it was then
  pub packets : PacketsWereWalked start done
  -- what was refused changed nothing
  pub refused : RefusedChangedNothing start done

-- a run from one moment to another: the lines that it read and executed; with a status, that it did what is said of all bytes of
-- the input, with the marks of these lines; and what the headline says of these lines
pub record RunsTo (kind : Kind) (before : Moment) (result : Result ℕ RunFault) (after : Moment) : Type 0 where
  pub lines : List Line
  pub runs : Runs (start_of kind before.table.table) (finish_of kind) lines before result after
  pub whole : IfOk result (λ status. Whole kind (marks_of lines) before status after)
  pub headline : Headline (start_of kind before.table.table) (record { lines = lines; written = runs.written; answer = result }) before.table after.table

-- ---- Several runs of one session, one after another: each begins from the table that the one before left, even where that one stopped at
-- a failed device.

-- a run: its kind, and what it did
pub record Run : Type 0 where
  pub kind : Kind
  pub done : Done

-- how a run on a table begins
abbrev pub beginning : Table → Run → State
beginning t run = start_of run.kind t

-- the runs lead from one table to another, each from what the one before left
abbrev pub Follow : TableView → List Run → TableView → Type 0
Follow old [] new = new ≡ old
Follow old (run ∷ runs) new = (next : TableView) × Headline (beginning old.table run) run.done old next × Follow next runs new

-- the changes of a run that were accepted
abbrev pub accepted_in : Table → Run → List Change
accepted_in t run = accepted (beginning t run) run.done.lines

-- the changes of all runs that were accepted, in order
abbrev pub accepted_by : Table → List Run → List Change
accepted_by t [] = []
accepted_by t (run ∷ runs) = accepted_in t run ++ accepted_by (changed_by t (accepted_in t run)) runs

-- this fact holds of each run: of how it began, and of what it did
abbrev pub OfEach : (State → Done → Type 0) → Table → List Run → Type 0
OfEach P t [] = Unit {0}
OfEach P t (run ∷ runs) = P (beginning t run) run.done × OfEach P (changed_by t (accepted_in t run)) runs

-- what the lines of all runs left of a session's table
pub record Headlines (old : TableView) (runs : List Run) (new : TableView) : Type 0 where
  -- the table is the old one with the accepted changes of all runs made to it in order, as plain list edits
  pub chains : new.table ≡ changed_by old.table (accepted_by old.table runs)
  -- if `Stands` held of the table before, it holds now
  pub stands : Stands old → Stands new
  -- what the table answers of any packet is the walk through these rules in order
  pub walks : AnswersByWalks (changed_by old.table (accepted_by old.table runs)) new
  -- in each run, the reply to each packet that a line asked for was the walk through the table as it was then
  pub packets : OfEach PacketsWereWalked old.table runs
  -- in each run, what was refused changed nothing
  pub refused : OfEach RefusedChangedNothing old.table runs

-- whatever runs a session makes, together they leave what the headline says
abbrev pub RunsLeaveWhatTheyAccept : Type 0
RunsLeaveWhatTheyAccept = (old new : TableView) (runs : List Run) → Follow old runs new → Headlines old runs new
