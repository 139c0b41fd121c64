-- The changes of a run that were accepted: a command that wasn't refused, or a section of a restore that was committed.
use Rattle.std.specs.Prelude.{ℕ, Bool, List, [], ◌∷◌, ◌++◌, Result, Ok, Err, if◌then◌else◌}
use Rattle.table.specs.edits.Edits.{Edit}
use Rattle.restore.specs.commands.Command as command
use Rattle.restore.specs.declared.restore.SectionState.{SectionState}
use Rattle.restore.specs.declared.restore.SectionState.TheVariants.{Between, Building, Skipping}
use Rattle.restore.specs.Changes.{Change, Command, Section, edit_asked}
use Rattle.restore.specs.sections.Section.{asked}
use Rattle.sessions.specs.declared.line.fault.Fault.{Fault}
use Rattle.sessions.specs.line.Request.{Request, Ask, Nothing, Open, Run, Save, Show, request_on}
use Rattle.sessions.specs.line.Outcome.{Line, Reply, Says, Fails, Outcome, outcome}
use Rattle.sessions.specs.declared.line.mode.Mode.{Mode}
use Rattle.sessions.specs.declared.line.mode.Mode.TheVariants.{Outside, AfterFault, InRestore}
use Rattle.sessions.specs.run.Session.{State, step}

-- the edits of the open section after a line, by where the line and the next one stand in the restore
abbrev pub section_edits : List Edit → List ℕ → SectionState → SectionState → List Edit
section_edits edits line (Building s) (Building next) = edits ++ edit_asked (asked s line)
section_edits edits line (Building s) Between = []
section_edits edits line (Building s) Skipping = []
section_edits edits line Between after = []
section_edits edits line Skipping after = []

-- a section that was being built before a line and isn't after it, while the restore goes on, was committed; a test commits nothing
abbrev pub committed : Bool → Bool → List Edit → SectionState → SectionState → List Change
committed noflush test edits (Building s) Between = if test then [] else Section noflush edits ∷ []
committed noflush test edits (Building s) Skipping = []
committed noflush test edits (Building s) (Building next) = []
committed noflush test edits Between after = []
committed noflush test edits Skipping after = []

-- the edit of a command that wasn't refused
abbrev pub commanded : Reply → Result Request Fault → List Change
commanded (Fails fault) request = []
commanded (Says text) (Ok (Run (command.Change edit))) = Command edit ∷ []
commanded (Says text) (Ok (Run (command.ListRules name))) = []
commanded (Says text) (Ok Nothing) = []
commanded (Says text) (Ok Save) = []
commanded (Says text) (Ok (Open o)) = []
commanded (Says text) (Ok (Ask packet)) = []
commanded (Says text) (Ok (Show name)) = []
commanded (Says text) (Err fault) = []

-- the edits of the open section, and the changes so far
pub record Account : Type 0 where
  pub edits : List Edit
  pub changes : List Change

-- the account after a line, by where it and the next line stand
abbrev pub noted : Account → List ℕ → Mode → Outcome → Mode → Account
noted a line Outside t after = record { edits = []; changes = a.changes ++ commanded t.reply (request_on line) }
noted a line (InRestore word r) t (InRestore word' next) = record {
  edits = section_edits a.edits line r.state next.state;
  changes = a.changes ++ committed r.noflush r.test a.edits r.state next.state;
}
noted a line (InRestore word r) t Outside = record { edits = []; changes = a.changes }
noted a line (InRestore word r) t (AfterFault word') = record { edits = []; changes = a.changes }
noted a line (AfterFault word) t after = record { edits = []; changes = a.changes }

-- the account after some lines
abbrev pub account : State → Account → List Line → Account
account s a [] = a
account s a (line ∷ lines) =
    let t = outcome s.now.table s.now.mode line in account (step s line) (noted a line.text s.now.mode t t.mode) lines

-- the changes of these lines that were accepted, in order: the edit of a command, or a committed section with the edits of its
-- lines
abbrev pub accepted : State → List Line → List Change
accepted s lines = (account s (record { edits = []; changes = [] }) lines).changes
