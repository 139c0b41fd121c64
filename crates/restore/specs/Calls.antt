-- Calls that edit a table, in any order: commands, transactions, and restores that are given their lines; and what they leave.
use Rattle.std.specs.Prelude.{Bool, List, [], ◌∷◌, Result, Ok, Err, ◌≡◌, ℕ, ◌==◌, true, false, ◌++◌, Option, Some, None, option_map, IfOk, if◌then◌else◌, IsTrue}
use Rattle.std.specs.declared.alloc.AllocError.{AllocError}
use Rattle.table.specs.chains.Table.{Table, TableView, AreClassified}
use Rattle.table.specs.edits.Edits.{Edit, IsStepOf}
use Rattle.table.specs.declared.fault.TableFault.{TableFault}
use Rattle.table.specs.chains.Sound.{IsSound}
use Rattle.table.specs.walk.Cases.{Walks}
use Rattle.table.specs.walk.Walk.{Walked, walk}
use Rattle.fields.specs.Packet.{PacketView as Packet}
use Rattle.restore.specs.sections.Section.{RestoreFault, Section, asked, is_out_of_memory, line_in, begun}
use Rattle.restore.specs.Sequence.{Gives}
use Rattle.restore.specs.Changes as change
use Rattle.restore.specs.Changes.{Change, changed_by, edit_asked}
use Rattle.restore.specs.sections.Lines.{IsLine, puts_table}
use Rattle.restore.specs.sections.Restore.{SectionState, Between, Skipping, Building, Restore, ended_at}
use Rattle.restore.specs.Listing.{IsRestored, RestoresItself}

-- ---- Calls that edit a table, in any order: commands, transactions, and restores that are given their lines. A caller may have several
-- transactions and restores under way, each in a place, that is under a number of its own.

-- a call, with its answer where it can be refused: an edit; a question, which only reads; of the transaction in a place: it begins
-- (with noflush or without), is given a line, is committed, or is given up; of the restore in a place: it is given a line, or its
-- end
pub data Call : Type 0 where
  Edits : Edit → Result (Unit {0}) TableFault → Call
  Asks : Call
  Begins : ℕ → Bool → Result Section AllocError → Call
  Takes : ℕ → List ℕ → Result Section RestoreFault → Call
  Commits : ℕ → Call
  GivesUp : ℕ → Call
  Reads : ℕ → Restore → List ℕ → Result Restore RestoreFault → Call
  Ends : ℕ → Restore → Result (Unit {0}) RestoreFault → Call

-- a section that is neither committed nor given up: the table that it began as, what it is so far, and the edits that its lines
-- asked for
pub record Pending : Type 0 where
  pub from : Table
  pub section : Section
  pub edits : List Edit

-- a section to which no line was given yet
abbrev pub opened : Table → Section → Pending
opened from section = record { from = from; section = section; edits = [] }

-- the section after one more line
abbrev pub with_line : List ℕ → Section → Pending → Pending
with_line line section o = record { from = o.from; section = section; edits = o.edits ++ edit_asked (asked o.section line) }

-- the pending section in each place, if there is one
abbrev pub Places : Type 0
Places = ℕ → Option Pending

-- the places, with another section, or none, in one of them
abbrev pub put : ℕ → Option Pending → Places → Places
put place pending places other = if other == place then pending else places other

-- the state between two calls: the table, and the pending sections
pub record Standing : Type 0 where
  pub table : Table
  pub places : Places

-- this table, and no section is pending
abbrev pub standing : Table → Standing
standing t = record { table = t; places = λ place. None }

-- the change that a section makes when it is committed
abbrev pub section_change : Option Pending → List Change
section_change None = []
section_change (Some o) = change.SectionOf o.from o.edits ∷ []

-- the change that a call makes, if it makes one: an edit that isn't refused, the commit of a transaction, or the `COMMIT` of a
-- restore that isn't a test
abbrev pub accepted_of : Standing → Call → List Change
accepted_of s (Edits edit (Ok done)) = change.Command edit ∷ []
accepted_of s (Edits edit (Err fault)) = []
accepted_of s Asks = []
accepted_of s (Begins place noflush answer) = []
accepted_of s (Takes place line answer) = []
accepted_of s (Commits place) = section_change (s.places place)
accepted_of s (GivesUp place) = []
accepted_of s (Reads place r line (Ok next)) = if puts_table r line then section_change (s.places place) else []
accepted_of s (Reads place r line (Err fault)) = []
accepted_of s (Ends place r answer) = []

-- the section that is pending after a line of a restore: the same one with the line, a new one that began as this table, or none
abbrev pub pending_at : SectionState → SectionState → Table → List ℕ → Option Pending → Option Pending
pending_at Between before from line pending = None
pending_at Skipping before from line pending = None
pending_at (Building next) (Building section) from line pending = option_map (with_line line next) pending
pending_at (Building next) Between from line pending = Some (opened from next)
pending_at (Building next) Skipping from line pending = Some (opened from next)

-- the pending sections after a call; a refused line gives its section up, and one that can't begin is none
abbrev pub places_after : Standing → Call → Places
places_after s (Edits edit answer) = s.places
places_after s Asks = s.places
places_after s (Begins place noflush (Ok section)) = put place (Some (opened (begun noflush s.table).table section)) s.places
places_after s (Begins place noflush (Err fault)) = s.places
places_after s (Takes place line (Ok next)) = put place (option_map (with_line line next) (s.places place)) s.places
places_after s (Takes place line (Err fault)) = put place None s.places
places_after s (Commits place) = put place None s.places
places_after s (GivesUp place) = put place None s.places
places_after s (Reads place r line (Ok next)) = put place (pending_at next.state r.state (begun r.noflush s.table).table line (s.places place)) s.places
places_after s (Reads place r line (Err fault)) = put place None s.places
places_after s (Ends place r answer) = put place None s.places

-- the state after a call: the table by plain list edits
abbrev pub after : Standing → Call → Standing
after s call = record { table = changed_by s.table (accepted_of s call); places = places_after s call }

-- the changes that calls made, in order
abbrev pub accepted : Standing → List Call → List Change
accepted s [] = []
accepted s (call ∷ calls) = accepted_of s call ++ accepted (after s call) calls

-- a restore that is building a section builds the pending one
abbrev pub IsPendingIn : SectionState → Option Pending → Type 0
IsPendingIn Between pending = Unit {0}
IsPendingIn Skipping pending = Unit {0}
IsPendingIn (Building section) pending = (o : Pending) × (pending ≡ Some o) × (o.section ≡ section)

-- what a call answers and leaves of the table, by its contract; a line of a section, and its commit, belong to a section that these
-- calls began
abbrev pub IsCall : Standing → TableView → Call → TableView → Type 0
IsCall s old (Edits edit answer) new = IsStepOf edit old new answer
IsCall s old Asks new = new ≡ old
IsCall s old (Begins place noflush answer) new = IfOk answer (λ section. section ≡ begun noflush old.table) × (new ≡ old)
IsCall s old (Takes place line answer) new =
    (o : Pending) × (s.places place ≡ Some o) × Gives is_out_of_memory (λ (next : Section). next) answer (line_in o.section line) × (new ≡ old)
IsCall s old (Commits place) new = (o : Pending) × (s.places place ≡ Some o) × (new.table ≡ o.section.table)
IsCall s old (GivesUp place) new = new ≡ old
IsCall s old (Reads place r line answer) new = IsPendingIn r.state (s.places place) × IsLine r line old new answer
IsCall s old (Ends place r answer) new = (answer ≡ ended_at r.state) × (new ≡ old)

-- these calls, made one after another, lead from one table to another
abbrev pub Lead : Standing → TableView → List Call → TableView → Type 0
Lead s old [] new = new ≡ old
Lead s old (call ∷ calls) new = (next : TableView) × IsCall s old call next × Lead (after s call) next calls new

-- the call was refused
abbrev pub is_refused : Call → Bool
is_refused (Edits edit (Ok done)) = false
is_refused (Edits edit (Err fault)) = true
is_refused Asks = false
is_refused (Begins place noflush (Ok section)) = false
is_refused (Begins place noflush (Err fault)) = true
is_refused (Takes place line (Ok next)) = false
is_refused (Takes place line (Err fault)) = true
is_refused (Commits place) = false
is_refused (GivesUp place) = false
is_refused (Reads place r line (Ok next)) = false
is_refused (Reads place r line (Err fault)) = true
is_refused (Ends place r (Ok done)) = false
is_refused (Ends place r (Err fault)) = true

-- ---- After any list of calls, refused ones among them, the chains are those of the accepted changes as plain list edits, each chain's
-- classifier is that of its rules and of the restored listing, every packet walks the rules in one way, and what was refused changed
-- nothing.

-- the table is sound, and each chain's classifier is that of its rules, as `Table::stands` says of every table
pub record IsSoundAndClassified (t : TableView) : Type 0 where
  pub sound : IsSound t.table
  pub classified : AreClassified t.table.chains t.classifiers

-- what calls left of a table
pub record Leaves (old : TableView) (calls : List Call) (new : TableView) : Type 0 where
  -- the table is the old one with the accepted changes made to it in order, as plain list edits
  pub chains : new.table ≡ changed_by old.table (accepted (standing old.table) calls)
  -- it is sound, and each chain's classifier is that of its rules
  pub stands : IsSoundAndClassified new
  -- its listing is read from the empty table without a refusal, as an equal table
  pub restores : RestoresItself new.table
  -- a table that this restore gives, with the classifiers of its rules, has these classifiers
  pub restored : (made : TableView) → IsSoundAndClassified made → IsRestored new.table made.table → made ≡ new
  -- so has any other table of these chains, whatever calls led to it
  pub classifiers : (other : TableView) → IsSoundAndClassified other → other.table ≡ new.table → other ≡ new
  -- every packet's walk, by cases, one rule at a time, ends with what `walk` gives
  pub walks : (packet : Packet) → Walks new.table packet (walk new.table packet)
  -- no walk ends with anything else
  pub one_walk : (packet : Packet) (walked : Walked) → Walks new.table packet walked → walked ≡ walk new.table packet

-- whatever calls lead from one table to another, they leave that
abbrev pub CallsLeaveWhatTheyAccept : Type 0
CallsLeaveWhatTheyAccept =
    (old new : TableView) (calls : List Call) → IsSoundAndClassified new → Lead (standing old.table) old calls new → Leaves old calls new

-- a refused call changes nothing, classifiers included
abbrev pub RefusedCallsChangeNothing : Type 0
RefusedCallsChangeNothing = (s : Standing) (old new : TableView) (call : Call) → IsCall s old call new → IsTrue (is_refused call) → new ≡ old
