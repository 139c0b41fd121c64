-- What a line of a session does, by its mode, that is where it stands: outside of restores, in one, with its end line, or after the
-- fault of one. A restore from the command line has no end line.
use Rattle.std.specs.Prelude.{ℕ, ◌==◌, ◌||◌, ◌&&◌, not, Bool, true, false, List, [], Option, Some, None, Result, Ok, Err, if◌then◌else◌}
use Rattle.std.specs.Str.{bytes_eq}
use Rattle.table.specs.chains.Table.{Table, has_chain, rules_of}
use Rattle.table.specs.edits.Edits.{step as table_step}
use Rattle.table.specs.declared.fault.TableFault.{TableFault}
use Rattle.table.specs.declared.fault.TableFault.TheVariants.{NoSuchChain}
use Rattle.restore.specs.commands.Command.{Change, ListRules}
use Rattle.restore.specs.Listing.{listing, rules_listing}
use Rattle.restore.specs.sections.Restore.{Restore, Restoring, begun_restore, ended_at, restore_line, takes_no_memory}
use Rattle.restore.specs.sections.Section.{is_quiet, is_too_long}
use Rattle.restore.specs.declared.fault.RestoreFault.{RestoreFault}
use Rattle.restore.specs.declared.fault.RestoreFault.TheVariants.{Table as OfTable}
use Rattle.sessions.specs.line.Fault.{Fault, EndWordMissing, NoMemory, fault_line, fault_status, of_line}
use Rattle.sessions.specs.line.Request.{Opening, Request, Nothing, Run, Save, Open, Ask, Show, request_on}
use Rattle.sessions.specs.Replies.{packet_reply, lines_reply}
pub use Rattle.sessions.specs.declared.line.mode.Mode.{Mode}
pub use Rattle.sessions.specs.declared.line.mode.Mode.TheVariants.{Outside, InRestore, AfterFault}

-- a line's text, and its mark: whether memory was refused in it
pub record Line : Type 0 where
  pub text : List ℕ
  pub refused : Bool

-- what is printed: a text, or the line that reports a fault
pub data Reply : Type 0 where
  Says : List ℕ → Reply
  Fails : Fault → Reply

-- the bytes that are printed of a reply to line n
abbrev pub reply_text : ℕ → Reply → List ℕ
reply_text n (Says text) = text
reply_text n (Fails fault) = fault_line n fault

-- the status so far, or that of this fault if it is the first
abbrev pub status_after : ℕ → Reply → ℕ
status_after status (Says text) = status
status_after status (Fails fault) = if status == 0 then fault_status fault else status

-- what a line does: the table after it, where the next line stands, and its reply
pub record Outcome : Type 0 where
  pub table : Table
  pub mode : Mode
  pub reply : Reply

-- an outcome with these parts
abbrev pub outcome_with : Table → Mode → Reply → Outcome
outcome_with t mode reply = record { table = t; mode = mode; reply = reply }

-- an outcome that prints nothing
abbrev pub silent : Table → Mode → Outcome
silent t mode = outcome_with t mode (Says [])

-- a fault in a restore ends it: its further lines, up to its end line, are passed over
abbrev pub after_fault : Mode → Mode
after_fault Outside = Outside
after_fault (InRestore word r) = AfterFault word
after_fault (AfterFault word) = AfterFault word

-- a run ends at the fault of a restore that has no end line
abbrev pub has_ended : Mode → Bool
has_ended Outside = false
has_ended (InRestore word r) = false
has_ended (AfterFault None) = true
has_ended (AfterFault (Some word)) = false

-- a refused line: nothing changes, and a restore that it stands in ends
abbrev pub fails : Table → Mode → Fault → Outcome
fails t mode fault = outcome_with t (after_fault mode) (Fails fault)

-- the line ends the restore; a restore from the command line has no end line
abbrev pub is_end : Option (List ℕ) → List ℕ → Bool
is_end None line = false
is_end (Some word) line = bytes_eq line word

-- the table after an edit, or its fault
abbrev pub edit_outcome : Table → Result Table TableFault → Outcome
edit_outcome t (Ok new) = silent new Outside
edit_outcome t (Err fault) = fails t Outside (of_line (OfTable fault))

-- what is printed of this chain, if it is there, or of all chains
abbrev pub on_chain : Table → Option (List ℕ) → List ℕ → Outcome
on_chain t None text = outcome_with t Outside (Says text)
on_chain t (Some name) text =
    if has_chain t name then outcome_with t Outside (Says text) else fails t Outside (of_line (OfTable NoSuchChain))

-- the next lines are a restore's, up to its end line
abbrev pub opened : Opening → Mode
opened o = InRestore (Some o.word) (begun_restore o.options.noflush o.options.test)

-- what a line outside of restores does
abbrev pub execute : Table → Result Request Fault → Outcome
execute t (Err fault) = fails t Outside fault
execute t (Ok Nothing) = silent t Outside
execute t (Ok (Run (Change edit))) = edit_outcome t (table_step edit t)
execute t (Ok (Run (ListRules name))) = on_chain t name (rules_listing t name)
execute t (Ok Save) = outcome_with t Outside (Says (listing t))
execute t (Ok (Open o)) = silent t (opened o)
execute t (Ok (Ask packet)) = outcome_with t Outside (Says (packet_reply t packet))
execute t (Ok (Show name)) = on_chain t (Some name) (lines_reply (rules_of t.chains name))

-- the end line of a restore, which has to stand between sections
abbrev pub ended : Table → Result (Unit {0}) RestoreFault → Outcome
ended t (Ok done) = silent t Outside
ended t (Err fault) = fails t Outside (of_line fault)

-- what a line of a restore does
abbrev pub restore_outcome : Table → Option (List ℕ) → Restore → Result Restoring RestoreFault → Outcome
restore_outcome t word r (Ok next) = silent next.table (InRestore word next.restore)
restore_outcome t word r (Err fault) = fails t (InRestore word r) (of_line fault)

-- what a line does, by where it stands
abbrev pub executed : Table → Mode → List ℕ → Outcome
executed t Outside line = execute t (request_on line)
executed t (InRestore word r) line = if is_end word line then ended t (ended_at r.state) else restore_outcome t word r (restore_line r t line)
executed t (AfterFault word) line = silent t (if is_end word line then Outside else AfterFault word)

-- memory can't be refused in this line: it is too long, blank, a comment or passed over, the end line of a restore, in a skipped
-- section, or the `COMMIT` of a restore
abbrev pub needs_no_memory : Mode → List ℕ → Bool
needs_no_memory Outside line = is_too_long line || is_quiet line
needs_no_memory (InRestore word r) line = is_end word line || takes_no_memory r.state line
needs_no_memory (AfterFault word) line = true

-- what a line does: the table after it, where the next line stands, and its reply. Where memory was refused it does nothing, and
-- that is its fault
unfoldable pub outcome : Table → Mode → Line → Outcome
outcome t mode line = if line.refused && not (needs_no_memory mode line.text) then fails t mode NoMemory else executed t mode line.text

-- the end of a session's input: in a restore its end line is missing
abbrev pub last_outcome : Table → Mode → Outcome
last_outcome t Outside = silent t Outside
last_outcome t (InRestore word r) = fails t Outside EndWordMissing
last_outcome t (AfterFault word) = silent t Outside

-- a restore from the command line may end only between sections, and then prints the listing if that is wanted
abbrev pub listed : Bool → Table → Result (Unit {0}) RestoreFault → Outcome
listed list t (Ok done) = outcome_with t Outside (Says (if list then listing t else []))
listed list t (Err fault) = fails t Outside (of_line fault)

-- the end of the input of a restore from the command line (iptables-restore(8))
abbrev pub restore_end : Bool → Table → Mode → Outcome
restore_end list t Outside = silent t Outside
restore_end list t (InRestore word r) = listed list t (ended_at r.state)
restore_end list t (AfterFault word) = silent t Outside
