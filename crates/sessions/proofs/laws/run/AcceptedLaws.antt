-- The lines of a session leave what its accepted changes give by plain list edits, and a line that is refused changes nothing.
use Rattle.std.proofs.Common.{◌≡◌, ℕ, List, [], ◌∷◌, ◌++◌, ◌&&◌, not, Bool, true, false, Option, Some, None, Result, Ok, Err, refl, sym, ap, ◌∙◌, fold, if◌then◌else◌, subst}
use Rattle.table.specs.edits.Edits.{Edit, edited, step as table_step}
use Rattle.table.specs.edits.Headline.{edited_by}
use Rattle.table.specs.chains.Table.{Table, has_chain}
use Rattle.table.specs.declared.fault.TableFault.{TableFault}
use Rattle.restore.specs.Sequence.{made_into}
use Rattle.restore.specs.declared.fault.RestoreFault.{RestoreFault}
use Rattle.restore.specs.declared.restore.SectionState.{SectionState}
use Rattle.restore.specs.declared.restore.SectionState.TheVariants.{Between, Skipping, Building}
use Rattle.restore.specs.sections.Restore.{Restore, Restoring, moved, between, line_at, ended_at, is_commit, restore_line}
use Rattle.restore.specs.sections.Section.{asked, begun, is_too_long, line_in}
use Rattle.restore.specs.Changes.{Change, Command, Section, changed_by, edit_asked}
use Rattle.restore.proofs.laws.CallLaws.{changed_then}
use Rattle.restore.proofs.laws.sections.HeadlineLaws.{OnGiven, IsBegun, between_is, edits_asked, of_both, step_edits}
use Rattle.fields.specs.Packet.{PacketView}
use Rattle.restore.specs.Listing.{rules_listing}
use Rattle.restore.specs.commands.Command as command
use Rattle.restore.specs.sections.Section as section
use Rattle.sessions.specs.declared.line.fault.Fault.{Fault}
use Rattle.sessions.specs.declared.line.fault.Fault.TheVariants.{NoMemory}
use Rattle.sessions.specs.line.Request.{Request, Nothing, Run, Save, Open, Ask, Show, request_on}
use Rattle.sessions.specs.line.Outcome.{Line, Outcome, silent, fails, edit_outcome, execute, ended, restore_outcome, executed, is_end, needs_no_memory, outcome, Reply, Says, Fails, on_chain}
use Rattle.sessions.specs.declared.line.mode.Mode.{Mode}
use Rattle.sessions.specs.declared.line.mode.Mode.TheVariants.{Outside, InRestore, AfterFault}
use Rattle.sessions.specs.run.Accepted.{Account, section_edits, committed, commanded, noted, account, accepted}
use Rattle.sessions.specs.run.Session.{State, step, session_start, restore_start}
use Rattle.sessions.specs.Replies.{packet_reply}

-- ---- The lines of a session leave what its accepted changes give by plain list edits.

-- the account fits a table

abbrev OpenAt : Bool → Table → List Edit → SectionState → Type 0
OpenAt n t edits Between = Unit {0}
OpenAt n t edits Skipping = Unit {0}
OpenAt n t edits (Building s) = s.table ≡ edited_by (begun n t).table edits

abbrev OpenIn : Table → List Edit → Mode → Type 0
OpenIn t edits Outside = Unit {0}
OpenIn t edits (InRestore word r) = OpenAt r.noflush t edits r.state
OpenIn t edits (AfterFault word) = Unit {0}

record Fits (t0 t : Table) (mode : Mode) (a : Account) : Type 0 where
  table : t ≡ changed_by t0 a.changes
  open_in : OpenIn t a.edits mode

-- lines outside of restores

abbrev FitsExecuted : Table → List Change → Result Request Fault → Outcome → Type 0
FitsExecuted t0 cs request done = Fits t0 done.table done.mode (record { edits = []; changes = cs ++ commanded done.reply request })

same : (t0 t : Table) (cs : List Change) → t ≡ changed_by t0 cs → t ≡ changed_by t0 (cs ++ [])
same t0 t cs h = h ∙ sym (changed_then t0 cs [])

fits_edit : (t0 t : Table) (cs : List Change) (e : Edit) (r : Result Table TableFault) → t ≡ changed_by t0 cs → OnGiven r (λ u. u ≡ edited e t)
    → FitsExecuted t0 cs (Ok (Run (command.Change e))) (edit_outcome t r)
fits_edit t0 t cs e (Ok new) h g = record { table = g ∙ ap (edited e) h ∙ sym (changed_then t0 cs (Command e ∷ [])); open_in = tt }
fits_edit t0 t cs e (Err f) h g = record { table = same t0 t cs h; open_in = tt }

fits_execute : (t0 t : Table) (cs : List Change) (request : Result Request Fault) → t ≡ changed_by t0 cs → FitsExecuted t0 cs request (execute t request)
fits_execute t0 t cs (Err fault) h = record { table = same t0 t cs h; open_in = tt }
fits_execute t0 t cs (Ok Nothing) h = record { table = same t0 t cs h; open_in = tt }
fits_execute t0 t cs (Ok (Run (command.Change e))) h = fits_edit t0 t cs e (table_step e t) h (step_edits e t)
fits_execute t0 t cs (Ok (Run (command.ListRules None))) h = record { table = same t0 t cs h; open_in = tt }
fits_execute t0 t cs (Ok (Run (command.ListRules (Some name)))) h =
    of_both (FitsExecuted t0 cs (Ok (Run (command.ListRules (Some name))))) (has_chain t name) (record { table = same t0 t cs h; open_in = tt }) (record { table = same t0 t cs h; open_in = tt })
fits_execute t0 t cs (Ok Save) h = record { table = same t0 t cs h; open_in = tt }
fits_execute t0 t cs (Ok (Open o)) h = record { table = same t0 t cs h; open_in = tt }
fits_execute t0 t cs (Ok (Ask packet)) h = record { table = same t0 t cs h; open_in = tt }
fits_execute t0 t cs (Ok (Show name)) h =
    of_both (FitsExecuted t0 cs (Ok (Show name))) (has_chain t name) (record { table = same t0 t cs h; open_in = tt }) (record { table = same t0 t cs h; open_in = tt })

-- lines of a restore

-- what a line of a restore leaves fits
record FitsNext (t0 t : Table) (cs : List Change) (es : List Edit) (line : List ℕ) (r : Restore) (before : SectionState) (next : Restoring) : Type 0 where
  table : next.table ≡ changed_by t0 (cs ++ committed r.noflush r.test es before next.restore.state)
  open_at : OpenAt next.restore.noflush next.table (section_edits es line before next.restore.state) next.restore.state

-- what a line between sections begins has no edits yet
begun_open : (noflush : Bool) (t : Table) (place : SectionState) → IsBegun noflush t place → OpenAt noflush t [] place
begun_open noflush t Between is = tt
begun_open noflush t Skipping is = tt
begun_open noflush t (Building s) is = ap (λ (x : section.Section). x.table) is

opens : (t0 t : Table) (cs : List Change) (es : List Edit) (line : List ℕ) (r : Restore) (p : Result SectionState RestoreFault) → t ≡ changed_by t0 cs
    → OnGiven p (IsBegun r.noflush t) → OnGiven (made_into (moved t r) p) (FitsNext t0 t cs es line r Between)
opens t0 t cs es line r (Ok place) h g = record { table = same t0 t cs h; open_at = begun_open r.noflush t place g }
opens t0 t cs es line r (Err f) h g = tt

commits : (t0 t u : Table) (cs : List Change) (es : List Edit) (n test : Bool) → t ≡ changed_by t0 cs → u ≡ edited_by (begun n t).table es
    → (if test then t else u) ≡ changed_by t0 (cs ++ (if test then [] else Section n es ∷ []))
commits t0 t u cs es n true h g = same t0 t cs h
commits t0 t u cs es n false h g = g ∙ ap (λ v. edited_by (begun n v).table es) h ∙ sym (changed_then t0 cs (Section n es ∷ []))

builds : (t0 t : Table) (cs : List Change) (es : List Edit) (line : List ℕ) (r : Restore) (s : section.Section) (q : Result section.Section RestoreFault) → t ≡ changed_by t0 cs
    → OnGiven q (λ next. next.table ≡ edited_by (begun r.noflush t).table (es ++ edit_asked (asked s line)))
    → OnGiven (made_into (λ next. moved t r (Building next)) q) (FitsNext t0 t cs es line r (Building s))
builds t0 t cs es line r s (Ok next) h g = record { table = same t0 t cs h; open_at = g }
builds t0 t cs es line r s (Err f) h g = tt

fits_at : (t0 t : Table) (cs : List Change) (es : List Edit) (line : List ℕ) (r : Restore) (place : SectionState) → t ≡ changed_by t0 cs → OpenAt r.noflush t es place
    → OnGiven (line_at place r t line) (FitsNext t0 t cs es line r place)
fits_at t0 t cs es line r Between h g = opens t0 t cs es line r (between r.noflush t line) h (between_is t r line)
fits_at t0 t cs es line r Skipping h g = record { table = same t0 t cs h; open_at = of_both (OpenAt r.noflush t []) (is_commit line) tt tt }
fits_at t0 t cs es line r (Building s) h g =
    of_both (λ p. OnGiven p (FitsNext t0 t cs es line r (Building s))) (is_commit line)
    (record { table = commits t0 t s.table cs es r.noflush r.test h g; open_at = tt })
    (builds t0 t cs es line r s (line_in s line) h (edits_asked (begun r.noflush t).table s es (asked s line) g))

fits_line : (t0 t : Table) (cs : List Change) (es : List Edit) (line : List ℕ) (r : Restore) → t ≡ changed_by t0 cs → OpenAt r.noflush t es r.state
    → OnGiven (restore_line r t line) (FitsNext t0 t cs es line r r.state)
unfolding restore_line
fits_line t0 t cs es line r h g = of_both {A = Result Restoring RestoreFault} (λ p. OnGiven p (FitsNext t0 t cs es line r r.state)) (is_too_long line) tt (fits_at t0 t cs es line r r.state h g)

-- all lines

abbrev FitsOutcome : Table → Account → List ℕ → Mode → Outcome → Type 0
FitsOutcome t0 a line mode done = Fits t0 done.table done.mode (noted a line mode done done.mode)

fits_ended : (t0 t : Table) (a : Account) (line : List ℕ) (word : Option (List ℕ)) (r : Restore) (e : Result (Unit {0}) RestoreFault) → t ≡ changed_by t0 a.changes
    → FitsOutcome t0 a line (InRestore word r) (ended t e)
fits_ended t0 t a line word r (Ok done) h = record { table = h; open_in = tt }
fits_ended t0 t a line word r (Err f) h = record { table = h; open_in = tt }

fits_restore : (t0 t : Table) (a : Account) (line : List ℕ) (word : Option (List ℕ)) (r : Restore) (q : Result Restoring RestoreFault) → t ≡ changed_by t0 a.changes
    → OnGiven q (FitsNext t0 t a.changes a.edits line r r.state) → FitsOutcome t0 a line (InRestore word r) (restore_outcome t word r q)
fits_restore t0 t a line word r (Ok next) h g = record { table = g.table; open_in = g.open_at }
fits_restore t0 t a line word r (Err f) h g = record { table = h; open_in = tt }

fits_executed : (t0 t : Table) (a : Account) (line : List ℕ) (mode : Mode) → Fits t0 t mode a → FitsOutcome t0 a line mode (executed t mode line)
fits_executed t0 t a line Outside f = fits_execute t0 t a.changes (request_on line) f.table
fits_executed t0 t a line (InRestore word r) f =
    of_both (FitsOutcome t0 a line (InRestore word r)) (is_end word line) (fits_ended t0 t a line word r (ended_at r.state) f.table)
    (fits_restore t0 t a line word r (restore_line r t line) f.table (fits_line t0 t a.changes a.edits line r f.table f.open_in))
fits_executed t0 t a line (AfterFault word) f =
    of_both (λ mode. Fits t0 t mode (noted a line (AfterFault word) (silent t mode) mode)) (is_end word line) (record { table = f.table; open_in = tt }) (record { table = f.table; open_in = tt })

fits_marked : (t0 t : Table) (a : Account) (line : List ℕ) (mode : Mode) (fault : Fault) → Fits t0 t mode a → FitsOutcome t0 a line mode (fails t mode fault)
fits_marked t0 t a line Outside fault f = record { table = same t0 t a.changes f.table; open_in = tt }
fits_marked t0 t a line (InRestore word r) fault f = record { table = f.table; open_in = tt }
fits_marked t0 t a line (AfterFault word) fault f = record { table = f.table; open_in = tt }

fits_outcome : (t0 t : Table) (a : Account) (line : Line) (mode : Mode) → Fits t0 t mode a → FitsOutcome t0 a line.text mode (outcome t mode line)
unfolding outcome
fits_outcome t0 t a line mode f =
    of_both (FitsOutcome t0 a line.text mode) (line.refused && not (needs_no_memory mode line.text)) (fits_marked t0 t a line.text mode NoMemory f) (fits_executed t0 t a line.text mode f)

leaves : (t0 : Table) (s : State) (a : Account) (lines : List Line) → Fits t0 s.now.table s.now.mode a → (fold step s lines).now.table ≡ changed_by t0 (account s a lines).changes
leaves t0 s a [] f = f.table
leaves t0 s a (line ∷ lines) f =
    leaves t0 (step s line) (noted a line.text s.now.mode (outcome s.now.table s.now.mode line) (outcome s.now.table s.now.mode line).mode) lines (fits_outcome t0 s.now.table a line s.now.mode f)

-- those of a session
pub session_leaves : (t : Table) (lines : List Line) → (fold step (session_start t) lines).now.table ≡ changed_by t (accepted (session_start t) lines)
session_leaves t lines = leaves t (session_start t) (record { edits = []; changes = [] }) lines (record { table = refl; open_in = tt })

-- and those of a restore from the command line
pub restore_leaves : (noflush test : Bool) (t : Table) (lines : List Line)
    → (fold step (restore_start noflush test t) lines).now.table ≡ changed_by t (accepted (restore_start noflush test t) lines)
restore_leaves noflush test t lines = leaves t (restore_start noflush test t) (record { edits = []; changes = [] }) lines (record { table = refl; open_in = tt })

-- ---- A line that is refused changes nothing, and a packet is answered by its walk.

abbrev OnFails : Reply → Type 0 → Type 0
OnFails (Says text) P = Unit {0}
OnFails (Fails fault) P = P

abbrev Keeps : Table → Outcome → Type 0
Keeps t done = OnFails done.reply (done.table ≡ t)

keeps_edit : (t : Table) (r : Result Table TableFault) → Keeps t (edit_outcome t r)
keeps_edit t (Ok new) = tt
keeps_edit t (Err fault) = refl

keeps_chain : (t : Table) (name : Option (List ℕ)) (text : List ℕ) → Keeps t (on_chain t name text)
keeps_chain t None text = tt
keeps_chain t (Some name) text = of_both (Keeps t) (has_chain t name) tt refl

keeps_execute : (t : Table) (r : Result Request Fault) → Keeps t (execute t r)
keeps_execute t (Err fault) = refl
keeps_execute t (Ok Nothing) = tt
keeps_execute t (Ok (Run (command.Change edit))) = keeps_edit t (table_step edit t)
keeps_execute t (Ok (Run (command.ListRules name))) = keeps_chain t name (rules_listing t name)
keeps_execute t (Ok Save) = tt
keeps_execute t (Ok (Open o)) = tt
keeps_execute t (Ok (Ask packet)) = tt
keeps_execute t (Ok (Show name)) = keeps_chain t (Some name) _

keeps_ended : (t : Table) (r : Result (Unit {0}) RestoreFault) → Keeps t (ended t r)
keeps_ended t (Ok done) = tt
keeps_ended t (Err fault) = refl

keeps_restore : (t : Table) (word : Option (List ℕ)) (r : Restore) (next : Result Restoring RestoreFault) → Keeps t (restore_outcome t word r next)
keeps_restore t word r (Ok next) = tt
keeps_restore t word r (Err fault) = refl

keeps_executed : (t : Table) (mode : Mode) (line : List ℕ) → Keeps t (executed t mode line)
keeps_executed t Outside line = keeps_execute t (request_on line)
keeps_executed t (InRestore word r) line = of_both (Keeps t) (is_end word line) (keeps_ended t (ended_at r.state)) (keeps_restore t word r (restore_line r t line))
keeps_executed t (AfterFault word) line = tt

keeps_outcome : (t : Table) (mode : Mode) (line : Line) → Keeps t (outcome t mode line)
unfolding outcome
keeps_outcome t mode line = of_both (Keeps t) (line.refused && not (needs_no_memory mode line.text)) refl (keeps_executed t mode line.text)

-- a line that is refused changes nothing
pub refused_changes_nothing : (t : Table) (mode : Mode) (line : Line) (fault : Fault) → (outcome t mode line).reply ≡ Fails fault → (outcome t mode line).table ≡ t
refused_changes_nothing t mode line fault e = subst (λ reply. OnFails reply ((outcome t mode line).table ≡ t)) e (keeps_outcome t mode line)

-- Packets

abbrev OnSays : Reply → (List ℕ → Type 0) → Type 0
OnSays (Says text) P = P text
OnSays (Fails fault) P = Unit {0}

asks : (t : Table) (packet : PacketView) (line : Line) → request_on line.text ≡ Ok (Ask packet) → OnSays (outcome t Outside line).reply (λ text. text ≡ packet_reply t packet)
unfolding outcome
asks t packet line e =
    of_both (λ (x : Outcome). OnSays x.reply (λ text. text ≡ packet_reply t packet)) (line.refused && not (needs_no_memory Outside line.text)) tt
    (subst (λ request. OnSays (execute t request).reply (λ text. text ≡ packet_reply t packet)) (sym e) refl)

-- a line that asks for a packet and isn't refused prints its walk
pub packet_is_walked : (t : Table) (mode : Mode) (line : Line) (packet : PacketView) (text : List ℕ) → mode ≡ Outside → request_on line.text ≡ Ok (Ask packet) → (outcome t mode line).reply ≡ Says text
    → text ≡ packet_reply t packet
packet_is_walked t mode line packet text outside e says =
    subst (λ reply. OnSays reply (λ printed. printed ≡ packet_reply t packet)) (ap (λ (s : Mode). (outcome t s line).reply) (sym outside) ∙ says) (asks t packet line e)
