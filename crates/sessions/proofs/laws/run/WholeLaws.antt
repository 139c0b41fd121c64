-- A run that has a status did what is said of all bytes, and printed what stands at its end.
use Rattle.std.proofs.Common.{◌≡◌, ◌⊎◌, inl, inr, ℕ, ◌+◌, ◌==◌, ◌&&◌, not, Bool, true, false, List, [], ◌∷◌, ◌++◌, fold, Option, Some, None, IfSome, IfOk, OnOk, Result, Ok, Err, refl, sym, ap, subst, ◌∙◌, append-nil, if◌then◌else◌, append_assoc}
use Rattle.std.proofs.lemmas.Bool.{false≢true}
use Rattle.std.proofs.lemmas.Grind.{fold-append}
use Rattle.std.specs.Io.KnownBytes.{Appends, Consumes, IsAtEnd}
use Rattle.std.proofs.KnownBytes.{Appends-trans}
use Rattle.fields.specs.text.Line.{EndsAt, lines_of, onto_first}
use Rattle.table.specs.chains.Table.{Table, has_chain, TableView}
use Rattle.table.specs.edits.Edits.{step as table_step}
use Rattle.table.specs.declared.fault.TableFault.{TableFault}
use Rattle.restore.specs.declared.fault.RestoreFault.{RestoreFault}
use Rattle.restore.specs.sections.Restore.{Restore, Restoring, ended_at, restore_line}
use Rattle.restore.proofs.laws.sections.HeadlineLaws.{of_both}
use Rattle.fields.specs.declared.text.tap.Tap.{Tap}
use Rattle.fields.specs.text.Tap.{known, Stopped}
use Rattle.table.specs.edits.Headline.{ChainsHaveOneListOfClassifiers}
use Rattle.restore.specs.commands.Command as command
use Rattle.sessions.specs.declared.line.fault.Fault.{Fault}
use Rattle.sessions.specs.declared.line.fault.Fault.TheVariants.{NoMemory}
use Rattle.sessions.specs.line.Request.{Request, Nothing, Run, Save, Open, Ask, Show, request_on}
use Rattle.sessions.specs.line.Outcome.{Line, Outcome, edit_outcome, ended, fails, is_end, needs_no_memory, listed, restore_outcome, execute, executed, outcome, has_ended, last_outcome, restore_end, reply_text, status_after}
use Rattle.sessions.specs.declared.line.mode.Mode.{Mode}
use Rattle.sessions.specs.declared.line.mode.Mode.TheVariants.{Outside, InRestore, AfterFault}
use Rattle.sessions.specs.run.Run.{EndsLine, Lead, Moment, RunFault, Runs, Whole, WriteFailed}
use Rattle.sessions.specs.run.Session.{Kind, OfRestore, OfSession, State, finish_of, marked, marks_of, play, restore_finish, restore_start, session_finish, session_start, start_of, step, texts_of}
use Rattle.sessions.specs.run.Headline.{RunsTo, Stands}
use Rattle.sessions.specs.steps.Lines.{Ends, Finishes, ExecutedAll, state_of}
use Rattle.sessions.specs.declared.run.session.Progress.{Progress}
use Rattle.sessions.proofs.laws.run.WrittenLaws.{fold_of}
use Rattle.sessions.proofs.laws.run.HeadlineLaws.{run_headline}

-- ---- A run that has a status did what is said of all bytes.

-- Lines and the marks that they have

marked_more : (lines : List Line) (rest : List (List ℕ)) → marked (texts_of lines ++ rest) (marks_of lines) ≡ lines ++ marked rest []
marked_more [] rest = refl
marked_more (l ∷ ls) rest = ap (λ more. l ∷ more) (marked_more ls rest)

play_on : (start last : State) (lines : List Line) (rest : List (List ℕ)) → Lead start lines last → play start (texts_of lines ++ rest) (marks_of lines) ≡ play last rest []
play_on start last lines rest leads =
    ap (fold step start) (marked_more lines rest) ∙ fold-append step start lines (marked rest []) ∙ ap (λ s. fold step s (marked rest [])) (fold_of start last lines leads)

-- The lines of bytes that a newline ends, and of those after them

joined_if : (b : ℕ) (is_end : Bool) (xs ys more : List (List ℕ)) → (l : List ℕ) × (ls : List (List ℕ)) × (xs ≡ l ∷ ls) × (ys ≡ l ∷ (ls ++ more))
    → (l : List ℕ) × (ls : List (List ℕ)) × ((if is_end then [] ∷ xs else onto_first b xs) ≡ l ∷ ls) × ((if is_end then [] ∷ ys else onto_first b ys) ≡ l ∷ (ls ++ more))
joined_if b true xs ys more h = ([], xs, refl, ap (λ l. [] ∷ l) (h.3 ∙ sym (ap (λ l. l ++ more) h.2)))
joined_if b false xs ys more h = (b ∷ h.0, h.1, ap (onto_first b) h.2, ap (onto_first b) h.3)

lines_ended : (front rest : List ℕ) → (l : List ℕ) × (ls : List (List ℕ)) × (lines_of (front ++ 10 ∷ []) ≡ l ∷ ls) × (lines_of ((front ++ 10 ∷ []) ++ rest) ≡ l ∷ (ls ++ lines_of rest))
lines_ended [] rest = ([], [], refl, refl)
lines_ended (b ∷ front) rest = joined_if b (b == 10) (lines_of (front ++ 10 ∷ [])) (lines_of ((front ++ 10 ∷ []) ++ rest)) (lines_of rest) (lines_ended front rest)

ended_whole : (front rest : List ℕ) → lines_of ((front ++ 10 ∷ []) ++ rest) ≡ lines_of (front ++ 10 ∷ []) ++ lines_of rest
ended_whole front rest = let q = lines_ended front rest in q.3 ∙ sym (ap (λ l. l ++ lines_of rest) q.2)

lines_whole : (bytes rest : List ℕ) → EndsLine bytes → lines_of (bytes ++ rest) ≡ lines_of bytes ++ lines_of rest
lines_whole bytes rest h = elim h [
  | inl e ↦ subst (λ bs. lines_of (bs ++ rest) ≡ lines_of bs ++ lines_of rest) (sym e) refl
  | inr q ↦ subst (λ bs. lines_of (bs ++ rest) ≡ lines_of bs ++ lines_of rest) (sym q.1) (ended_whole q.0 rest)
]

lines_left : (bytes rest : List ℕ) → EndsLine bytes ⊎ (rest ≡ []) → lines_of (bytes ++ rest) ≡ lines_of bytes ++ lines_of rest
lines_left bytes rest (inl ends) = lines_whole bytes rest ends
lines_left bytes rest (inr none) =
    subst (λ r. lines_of (bytes ++ r) ≡ lines_of bytes ++ lines_of r) (sym none) (ap lines_of (append-nil bytes) ∙ sym (append-nil (lines_of bytes)))

-- Lines after the fault that ends a run print nothing and change nothing

abbrev over : Table → ℕ → ℕ → List ℕ → State
over t n status printed = record { now = record { table = t; mode = AfterFault None; number = n; status = status }; printed = printed }

still : (t : Table) (n status : ℕ) (printed : List ℕ) (texts : List (List ℕ)) → (m : ℕ) × (printed' : List ℕ) × (play (over t n status printed) texts [] ≡ over t m status printed') × (printed' ≡ printed)
unfolding outcome
still t n status printed [] = (n, printed, refl, refl)
still t n status printed (text ∷ texts) = let q = still t (n + 1) status (printed ++ []) texts in (q.0, q.1, q.2, q.3 ∙ append-nil printed)

abbrev Same : State → State → Type 0
Same a b = (a.printed ≡ b.printed) × (a.now.status ≡ b.now.status) × (a.now.table ≡ b.now.table)

-- an end that prints nothing then
abbrev IsStill : (State → State) → Type 0
IsStill finish = (t : Table) (n m status : ℕ) (printed printed' : List ℕ) → printed' ≡ printed → Same (finish (over t m status printed')) (finish (over t n status printed))

session_still : IsStill session_finish
session_still t n m status printed printed' e = (ap (λ l. l ++ []) e, refl, refl)

restore_still : (list : Bool) → IsStill (restore_finish list)
restore_still list t n m status printed printed' e = (ap (λ l. l ++ []) e, refl, refl)

finish_still : (finish : State → State) → IsStill finish → (t : Table) (mode : Mode) (n status : ℕ) (printed : List ℕ) (texts : List (List ℕ)) → has_ended mode ≡ true
    → let s : State = record { now = record { table = t; mode = mode; number = n; status = status }; printed = printed } in Same (finish (play s texts [])) (finish s)
finish_still finish is t Outside n status printed texts h = absurd (false≢true h)
finish_still finish is t (InRestore word r) n status printed texts h = absurd (false≢true h)
finish_still finish is t (AfterFault (Some word)) n status printed texts h = absurd (false≢true h)
finish_still finish is t (AfterFault None) n status printed texts h =
    let q = still t n status printed texts in
    subst (λ s. Same (finish s) (finish (over t n status printed))) (sym q.2) (is t n q.0 status printed q.1 q.3)

ends_same : (finish : State → State) → IsStill finish → (s : State) (rest : List ℕ) → (has_ended s.now.mode ≡ true) ⊎ (rest ≡ []) → Same (finish (play s (lines_of rest) [])) (finish s)
ends_same finish is s rest (inl h) = finish_still finish is s.now.table s.now.mode s.now.number s.now.status s.printed (lines_of rest) h
ends_same finish is s rest (inr none) = subst (λ r. Same (finish (play s (lines_of r) [])) (finish s)) (sym none) (refl, refl, refl)

-- All bytes

abbrev Said : (State → State) → State → List Bool → Moment → ℕ → Moment → List ℕ → Type 0
Said finish start marks before status after all =
    let s = finish (play start (lines_of all) marks) in Appends before.given after.given s.printed × (status ≡ s.now.status) × (after.table.table ≡ s.now.table)

module _ (start : State) (finish : State → State) (still_is : IsStill finish) (keeps : (s : State) → (finish s).now.table ≡ s.now.table) (lines : List Line) (before after : Moment) (status : ℕ)
    (runs : Runs start finish lines before (Ok status) after) where
  last_table : after.table.table ≡ (finish runs.ran.last).now.table
  last_table = runs.table ∙ ap (λ (s : State). s.now.table) (fold_of start runs.ran.last lines runs.ran.leads) ∙ sym (keeps runs.ran.last)

  at : (rest : List ℕ) → EndsLine runs.bytes ⊎ (rest ≡ []) → (has_ended runs.ran.last.now.mode ≡ true) ⊎ (rest ≡ []) → Said finish start (marks_of lines) before status after (runs.bytes ++ rest)
  at rest whole done =
      let last = runs.ran.last in
      let same = ends_same finish still_is last rest done in
      let one : play start (lines_of (runs.bytes ++ rest)) (marks_of lines) ≡ play last (lines_of rest) [] =
      ap (λ ls. play start ls (marks_of lines)) (lines_left runs.bytes rest whole ∙ ap (λ ls. ls ++ lines_of rest) (sym runs.ran.read.texts)) ∙ play_on start last lines (lines_of rest) runs.ran.leads in
      subst (λ s. Appends before.given after.given (finish s).printed × (status ≡ (finish s).now.status) × (after.table.table ≡ (finish s).now.table)) (sym one)
      (subst (Appends before.given after.given) (runs.ran.printed ∙ sym same.0) runs.writes, runs.ran.answer ∙ sym same.1, last_table ∙ sym same.2)

  met : (a b : Option (List ℕ)) (all rest : List ℕ) → a ≡ Some all → b ≡ Some rest → EndsAt a b → rest ≡ []
  met a b all rest is left end = subst IsAtEnd left (subst (λ x. EndsAt x b) is end)

  go : (a b : Option (List ℕ)) → a ≡ before.left → b ≡ after.left → Consumes a b runs.bytes → IfSome a (Said finish start (marks_of lines) before status after)
  go None b is left taken = tt
  go (Some all) None is left taken = absurd taken
  go (Some all) (Some rest) is left taken =
      let none : EndsAt before.left after.left → rest ≡ [] = λ end. met before.left after.left all rest (sym is) (sym left) end in
      subst (Said finish start (marks_of lines) before status after) (sym taken)
      (at rest (elim runs.ran.read.whole [ inl e ↦ inl e | inr end ↦ inr (none end) ]) (elim runs.ran.done [ inl e ↦ inl e | inr end ↦ inr (none end) ]))

  -- a run that has a status is a whole one
  pub is_whole : IfSome before.left (Said finish start (marks_of lines) before status after)
  is_whole = go before.left after.left refl refl runs.reads

-- a session keeps its table at the end
keeps_last : (t : Table) (mode : Mode) (n status : ℕ) (printed : List ℕ)
    → let s : State = record { now = record { table = t; mode = mode; number = n; status = status }; printed = printed } in (session_finish s).now.table ≡ t
keeps_last t Outside n status printed = refl
keeps_last t (InRestore word r) n status printed = refl
keeps_last t (AfterFault word) n status printed = refl

listed_table : (list : Bool) (t : Table) (e : Result (Unit {0}) RestoreFault) (n status : ℕ) (printed : List ℕ) → (let x : Outcome = listed list t e in x.table) ≡ t
listed_table list t (Ok done) n status printed = refl
listed_table list t (Err fault) n status printed = refl

keeps_end : (list : Bool) (t : Table) (mode : Mode) (n status : ℕ) (printed : List ℕ)
    → let s : State = record { now = record { table = t; mode = mode; number = n; status = status }; printed = printed } in (restore_finish list s).now.table ≡ t
keeps_end list t Outside n status printed = refl
keeps_end list t (InRestore word r) n status printed = listed_table list t (ended_at r.state) n status printed
keeps_end list t (AfterFault word) n status printed = refl

-- with a status a run did what is said of all bytes
pub if_whole : (kind : Kind) (lines : List Line) (before after : Moment) (r : Result ℕ RunFault) → Runs (start_of kind before.table.table) (finish_of kind) lines before r after
    → IfOk r (λ status. Whole kind (marks_of lines) before status after)
if_whole kind lines before after (Err fault) runs = tt
if_whole OfSession lines before after (Ok status) runs =
    is_whole (session_start before.table.table) session_finish session_still (λ s. keeps_last s.now.table s.now.mode s.now.number s.now.status s.printed) lines before after status runs
if_whole (OfRestore noflush test list) lines before after (Ok status) runs =
    is_whole (restore_start noflush test before.table.table) (restore_finish list) (restore_still list) (λ s. keeps_end list s.now.table s.now.mode s.now.number s.now.status s.printed)
    lines before after status runs

-- No line of a session ends its run

abbrev IsNamed : Mode → Type 0
IsNamed Outside = Unit {0}
IsNamed (InRestore None r) = ⊥
IsNamed (InRestore (Some word) r) = Unit {0}
IsNamed (AfterFault None) = ⊥
IsNamed (AfterFault (Some word)) = Unit {0}

named_edit : (t : Table) (r : Result Table TableFault) → IsNamed (edit_outcome t r).mode
named_edit t (Ok new) = tt
named_edit t (Err fault) = tt

named_execute : (t : Table) (r : Result Request Fault) → IsNamed (execute t r).mode
named_execute t (Err fault) = tt
named_execute t (Ok Nothing) = tt
named_execute t (Ok (Run (command.Change edit))) = named_edit t (table_step edit t)
named_execute t (Ok (Run (command.ListRules None))) = tt
named_execute t (Ok (Run (command.ListRules (Some name)))) = of_both (λ (x : Outcome). IsNamed x.mode) (has_chain t name) tt tt
named_execute t (Ok Save) = tt
named_execute t (Ok (Open o)) = tt
named_execute t (Ok (Ask packet)) = tt
named_execute t (Ok (Show name)) = of_both (λ (x : Outcome). IsNamed x.mode) (has_chain t name) tt tt

named_ended : (t : Table) (e : Result (Unit {0}) RestoreFault) → IsNamed (ended t e).mode
named_ended t (Ok done) = tt
named_ended t (Err fault) = tt

named_restore : (t : Table) (word : List ℕ) (r : Restore) (q : Result Restoring RestoreFault) → IsNamed (restore_outcome t (Some word) r q).mode
named_restore t word r (Ok next) = tt
named_restore t word r (Err fault) = tt

named_executed : (t : Table) (mode : Mode) (line : List ℕ) → IsNamed mode → IsNamed (executed t mode line).mode
named_executed t Outside line h = named_execute t (request_on line)
named_executed t (InRestore None r) line h = absurd h
named_executed t (InRestore (Some word) r) line h =
    of_both (λ (x : Outcome). IsNamed x.mode) (is_end (Some word) line) (named_ended t (ended_at r.state)) (named_restore t word r (restore_line r t line))
named_executed t (AfterFault None) line h = absurd h
named_executed t (AfterFault (Some word)) line h = of_both IsNamed (is_end (Some word) line) tt tt

named_fails : (t : Table) (mode : Mode) (fault : Fault) → IsNamed mode → IsNamed (fails t mode fault).mode
named_fails t Outside fault h = tt
named_fails t (InRestore None r) fault h = absurd h
named_fails t (InRestore (Some word) r) fault h = tt
named_fails t (AfterFault None) fault h = absurd h
named_fails t (AfterFault (Some word)) fault h = tt

named_outcome : (t : Table) (mode : Mode) (line : Line) → IsNamed mode → IsNamed (outcome t mode line).mode
unfolding outcome
named_outcome t mode line h =
    of_both (λ (x : Outcome). IsNamed x.mode) (line.refused && not (needs_no_memory mode line.text)) (named_fails t mode NoMemory h) (named_executed t mode line.text h)

named_all : (s : State) (lines : List Line) → IsNamed s.now.mode → IsNamed (fold step s lines).now.mode
named_all s [] h = h
named_all s (line ∷ lines) h = named_all (step s line) lines (named_outcome s.now.table s.now.mode line h)

going_of : (mode : Mode) → IsNamed mode → has_ended mode ≡ true → ⊥
going_of Outside h e = false≢true e
going_of (InRestore word r) h e = false≢true e
going_of (AfterFault None) h e = h
going_of (AfterFault (Some word)) h e = false≢true e

-- a session is read to the end of its input
pub session_is_read : {A : Type 0} (t : Table) (lines : List Line) (last : State) → Lead (session_start t) lines last → (has_ended last.now.mode ≡ true) ⊎ A → A
session_is_read t lines last leads (inl e) =
    absurd (going_of last.now.mode (subst (λ (s : State). IsNamed s.now.mode) (fold_of (session_start t) last lines leads) (named_all (session_start t) lines tt)) e)
session_is_read t lines last leads (inr end) = end

pub on_ok : {P : Type 0} (r : Result ℕ RunFault) → P → OnOk r P
on_ok (Ok status) p = p
on_ok (Err fault) p = tt

-- ---- What is printed at the end of a run, and what the whole run did.

module _ {W : Type 0} (contents : W → Option (List ℕ)) (t : Table) (p : Progress) (o o' : Tap W) (r : Result ℕ RunFault) where
  -- at the end of a session
  pub session_ends : Finishes contents (status_after p.status (last_outcome t p.mode).reply) (reply_text p.number (last_outcome t p.mode).reply) o o' r → Ends contents session_finish t p o o' r
  session_ends h = record {
    reply = reply_text p.number (last_outcome t p.mode).reply;
    status = status_after p.status (last_outcome t p.mode).reply;
    printed = λ before. refl;
    answer = λ before. refl;
    finishes = h;
  }

  -- and of a restore from the command line
  pub restore_ends : (list : Bool) → Finishes contents (status_after p.status (restore_end list t p.mode).reply) (reply_text p.number (restore_end list t p.mode).reply) o o' r
      → Ends contents (restore_finish list) t p o o' r
  restore_ends list h = record {
    reply = reply_text p.number (restore_end list t p.mode).reply;
    status = status_after p.status (restore_end list t p.mode).reply;
    printed = λ before. refl;
    answer = λ before. refl;
    finishes = h;
  }

module _ {W : Type 0} (contents : W → Option (List ℕ)) (left : Option (List ℕ)) (t : TableView) (boxes : ℕ) where
  -- the moment at which a writer stands so
  abbrev moment_at : Tap W → Moment
  moment_at writer = record { left = left; given = known contents writer; table = t; boxes = boxes }

  module _ (o o' : Tap W) {start : State} {before : Moment} {p : Progress} (s : ExecutedAll start before (moment_at o) p) (finish : State → State) where
    table_is : t.table ≡ (fold step start s.lines).now.table
    table_is = ap (λ (x : State). x.now.table) (sym (fold_of start (state_of t.table p s.printed) s.lines s.leads))

    failed_at_end : (reply : List ℕ) → ((printed : List ℕ) → (finish (state_of t.table p printed)).printed ≡ printed ++ reply) → Stopped contents o o' reply
        → Runs start finish s.lines before (Err WriteFailed) (moment_at o')
    failed_at_end reply printed stops = record {
      bytes = s.bytes;
      written = s.printed ++ stops.part;
      reads = s.reads;
      writes = Appends-trans before.given (known contents o) (known contents o') s.printed stops.part s.writes stops.appends;
      ran = inr (inr (record {
        last = state_of t.table p s.printed;
        leads = s.leads;
        read = s.read;
        done = s.done;
        between = record {
          all = (stops.part, refl);
          part = (stops.begins.0, printed s.printed ∙ ap (λ l. s.printed ++ l) stops.begins.1 ∙ sym (append_assoc s.printed stops.part stops.begins.0));
        };
      }));
      table = table_is;
      boxes = s.boxes;
    }

    -- lines that were executed, and then the end
    pub ran_to_end : (r : Result ℕ RunFault) → Ends contents finish t.table p o o' r → (lines : List Line) × Runs start finish lines before r (moment_at o')
    ran_to_end (Ok status) e = (
      s.lines,
      record {
        bytes = s.bytes;
        written = s.printed ++ e.reply;
        reads = s.reads;
        writes = Appends-trans before.given (known contents o) (known contents o') s.printed e.reply s.writes e.finishes.1.appends;
        ran = record {
          last = state_of t.table p s.printed;
          leads = s.leads;
          read = s.read;
          done = s.done;
          printed = sym (e.printed s.printed);
          answer = e.finishes.0 ∙ sym (e.answer s.printed);
        };
        table = table_is;
        boxes = s.boxes;
      },
    )
    ran_to_end (Err fault) e = (
      s.lines,
      subst (λ (f : RunFault). Runs start finish s.lines before (Err f) (moment_at o')) (sym e.finishes.0) (failed_at_end e.reply e.printed e.finishes.1),
    )

-- what the lines did is what is said of all bytes, and what they left is the headline
pub runs_to : ChainsHaveOneListOfClassifiers → (kind : Kind) (before after : Moment) (r : Result ℕ RunFault) → Stands after.table
    → (lines : List Line) × Runs (start_of kind before.table.table) (finish_of kind) lines before r after → RunsTo kind before r after
runs_to one kind before after r stands (lines, runs) = record {
  lines = lines;
  runs = runs;
  whole = if_whole kind lines before after r runs;
  headline = run_headline one kind before after lines r runs stands;
}
