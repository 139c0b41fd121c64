-- What a call that is given a line of a restore answers, what such lines leave of the table in place, and which of them ask for a box of a
-- rule.
use Rattle.std.specs.Prelude.{◌≡◌, ◌⊎◌, ℕ, ◌&&◌, not, Bool, true, false, List, Result, Ok, Err, IsTrue, IsFalse, [], ◌∷◌, Option, Some, None, if◌then◌else◌}
use Rattle.table.specs.chains.Table.{TableView}
use Rattle.table.specs.edits.Edits.{puts_rule, Edit}
use Rattle.restore.specs.sections.Section.{RestoreFault, is_out_of_memory, Asked, asked}
use Rattle.restore.specs.sections.Restore.{Restore, Restoring, SectionState, Between, Skipping, Building, is_commit, restore_line, takes_no_memory, restore_lines}

-- ---- What a call that is given a line of a restore answers, and what it leaves of the table in place.

-- a section is being built
abbrev pub is_building : SectionState → Bool
is_building Between = false
is_building Skipping = false
is_building (Building s) = true

-- the line puts a table in place: it is the `COMMIT` of a section that was built, and the restore isn't a test
abbrev pub puts_table : Restore → List ℕ → Bool
puts_table r line = is_building r.state && is_commit line && not r.test

-- the call answers as the definition says. A refused line changes nothing, classifiers included, and neither does a line that puts
-- no table in place
abbrev pub Answers : Result Restoring RestoreFault → Bool → TableView → TableView → Result Restore RestoreFault → Type 0
Answers (Ok s) true old new result = (result ≡ Ok s.restore) × (new.table ≡ s.table)
Answers (Ok s) false old new result = (result ≡ Ok s.restore) × (new.table ≡ s.table) × (new ≡ old)
Answers (Err f) puts old new result = (result ≡ Err f) × (new ≡ old)

-- memory ran out on a line that may take some, and nothing was changed
pub record RanOut (r : Restore) (line : List ℕ) (old new : TableView) (result : Result Restore RestoreFault) : Type 0 where
  pub fault : RestoreFault
  pub answer : result ≡ Err fault
  pub memory : IsTrue (is_out_of_memory fault)
  pub may_take : IsFalse (takes_no_memory r.state line)
  pub unchanged : new ≡ old

-- the call answers as the definition says, or memory ran out on a line that may take some; a refused line, and a line that puts no
-- table in place, changes nothing
abbrev pub IsLine : Restore → List ℕ → TableView → TableView → Result Restore RestoreFault → Type 0
IsLine r line old new result =
    Answers (restore_line r old.table line) (puts_table r line) old new result ⊎ RanOut r line old new result

-- ---- What the lines of a restore leave of the table in place.

-- these lines, one after another and none refused, lead from one restore and table to another
abbrev pub Lead : Restore → TableView → List (List ℕ) → Restore → TableView → Type 0
Lead r old [] s new = (s ≡ r) × (new ≡ old)
Lead r old (line ∷ lines) s new = (next : Restore) × (table : TableView) × IsLine r line old table (Ok next) × Lead next table lines s new

-- lines none of which is refused leave what the definition restores
abbrev pub LinesLeaveWhatTheyRestore : Type 0
LinesLeaveWhatTheyRestore =
    (r s : Restore) (old new : TableView) (lines : List (List ℕ)) → Lead r old lines s new
    → restore_lines (record { table = old.table; restore = r }) lines ≡ Ok (record { table = new.table; restore = s })

-- a refused line changes nothing, classifiers included
abbrev pub RefusedLinesChangeNothing : Type 0
RefusedLinesChangeNothing = (r : Restore) (line : List ℕ) (old new : TableView) (f : RestoreFault) → IsLine r line old new (Err f) → new ≡ old

-- ---- Which lines of a restore ask for a box of a rule.

-- the edit, if there is one, puts a rule into a chain
abbrev pub edit_puts : Option Edit → Bool
edit_puts None = false
edit_puts (Some edit) = puts_rule edit

-- what is asked of a section's table puts a rule into a chain
abbrev pub asks_put : Result Asked RestoreFault → Bool
asks_put (Ok a) = edit_puts a.edit
asks_put (Err fault) = false

-- a line that stands there asks for a rule to be put into a chain: in a section that is built, by its command
abbrev pub line_puts : SectionState → List ℕ → Bool
line_puts Between line = false
line_puts Skipping line = false
line_puts (Building s) line = if is_commit line then false else asks_put (asked s line)
