-- The changes to a table that were accepted: a command that wasn't refused, or a section that was committed.
use Rattle.std.specs.Prelude.{Bool, List, [], ◌∷◌, Result, Ok, Err}
use Rattle.std.specs.Option.{option_to_list}
use Rattle.table.specs.chains.Table.{Table}
use Rattle.table.specs.edits.Edits.{Edit, edited}
use Rattle.table.specs.edits.Headline.{edited_by}
use Rattle.restore.specs.sections.Section.{Asked, RestoreFault, begun}

-- an accepted change: the edit of a command; a committed section, with noflush or without, with the edits of its lines in order; or
-- a section that began as a given table, whatever became of the one in place meanwhile, with the edits of its lines
pub data Change : Type 0 where
  Command : Edit → Change
  Section : Bool → List Edit → Change
  SectionOf : Table → List Edit → Change

-- the table after a change, by plain list edits; a section begins from the table, or without noflush from its policies alone
abbrev pub changed : Table → Change → Table
changed t (Command edit) = edited edit t
changed t (Section noflush edits) = edited_by (begun noflush t).table edits
changed t (SectionOf from edits) = edited_by from edits

-- the table after some changes, one after another
abbrev pub changed_by : Table → List Change → Table
changed_by t [] = t
changed_by t (change ∷ changes) = changed_by (changed t change) changes

-- the edit that a line of a section asks for, if it asks for one
abbrev pub edit_asked : Result Asked RestoreFault → List Edit
edit_asked (Ok a) = option_to_list a.edit
edit_asked (Err fault) = []
