-- A restore: sections one after another (iptables-restore(8)).
use Rattle.std.specs.Prelude.{ℕ, ◌||◌, Bool, true, false, List, [], ◌∷◌, drop, take, Result, Ok, Err, codes}
use Rattle.std.specs.Prelude.{if◌then◌else◌, refl}
use Rattle.std.specs.Coded.{Coded, code_by, coded×, coded_bool}
use Rattle.std.specs.List.{list_all}
use Rattle.std.specs.Str.{bytes_eq}
use Rattle.fields.specs.text.Words.{is_blank, words_of}
use Rattle.table.specs.chains.Table.{Table}
use Rattle.restore.specs.Sequence.{◌>>=◌, or_refused, made_into}
use Rattle.restore.specs.sections.Section.{RestoreFault, NotAllowed, EndBeforeCommit, Quoting, LineTooLong, Section, begun, is_quiet}
use Rattle.restore.specs.sections.Section.{is_too_long, begins_with, line_in}
pub use Rattle.restore.specs.declared.restore.SectionState.{SectionState}
pub use Rattle.restore.specs.declared.restore.SectionState.TheVariants.{Between, Skipping, Building}

-- a restore: its options `-n` and `-t`, and where its next line stands
pub record Restore : Type 0 where
  pub noflush : Bool
  pub test : Bool
  pub state : SectionState

-- how a restore is encoded: as its options and its place
abbrev pub restore_code : Coded SectionState → Coded Restore
restore_code state =
    code_by ((Bool × Bool) × SectionState) (coded× (coded× coded_bool coded_bool) state) (λ (r : Restore). ((r.noflush, r.test), r.state))
    (λ (p : (Bool × Bool) × SectionState). record { noflush = p.0.0; test = p.0.1; state = p.1 }) (λ r. refl)

-- a restore before its first line
abbrev pub begun_restore : Bool → Bool → Restore
begun_restore noflush test = record { noflush = noflush; test = test; state = Between }

-- the restore, with its next line standing there
abbrev pub at : Restore → SectionState → Restore
at r state = record { noflush = r.noflush; test = r.test; state = state }

-- the line without the blanks and tabs at its front
abbrev pub after_blanks : List ℕ → List ℕ
after_blanks [] = []
after_blanks (byte ∷ bytes) = if is_blank byte then after_blanks bytes else byte ∷ bytes

-- the line is `COMMIT`, with or without blanks and tabs around it
abbrev pub is_commit : List ℕ → Bool
is_commit line = let rest = after_blanks line in if bytes_eq (take 6 rest) (codes "COMMIT") then list_all is_blank (drop 6 rest) else false

-- the restore after a line, and the table that is in place then
pub record Restoring : Type 0 where
  pub table : Table
  pub restore : Restore

-- this table, and the restore with its next line standing there
abbrev pub moved : Table → Restore → SectionState → Restoring
moved t r state = record { table = t; restore = at r state }

-- `*filter` opens a section that is built; any other word that begins with `*` opens one that is skipped
abbrev pub opened : Bool → Table → List ℕ → SectionState
opened noflush t w = if bytes_eq w (codes "*filter") then Building (begun noflush t) else Skipping

-- between sections a line of one word that begins with `*` opens a section, and no other line is allowed
abbrev pub opening : Bool → Table → List (List ℕ) → Result SectionState RestoreFault
opening noflush t (w ∷ []) = if begins_with 42 w then Ok (opened noflush t w) else Err NotAllowed
opening noflush t words = Err NotAllowed

-- where the next line stands after a line between sections; blank lines and comments open nothing
abbrev pub between : Bool → Table → List ℕ → Result SectionState RestoreFault
between noflush t line = if is_quiet line then Ok Between else or_refused Quoting (words_of line) >>= λ words. opening noflush t words

-- where the next line stands after a line of a skipped section: `COMMIT` ends it
abbrev pub skipped : List ℕ → SectionState
skipped line = if is_commit line then Between else Skipping

-- the table after the `COMMIT` of a section: the one that was built or, in a test, the old one
abbrev pub committed : Bool → Table → Section → Table
committed test t s = if test then t else s.table

-- what a line gives, by where it stands; a skipped section isn't read up to its `COMMIT`
abbrev pub line_at : SectionState → Restore → Table → List ℕ → Result Restoring RestoreFault
line_at Between r t line = made_into (moved t r) (between r.noflush t line)
line_at Skipping r t line = Ok (moved t r (skipped line))
line_at (Building s) r t line =
    if is_commit line then Ok (moved (committed r.test t s) r Between)
    else made_into (λ next. moved t r (Building next)) (line_in s line)

-- what a line of a restore gives; its length is tested first
unfoldable pub restore_line : Restore → Table → List ℕ → Result Restoring RestoreFault
restore_line r t line = if is_too_long line then Err LineTooLong else line_at r.state r t line

-- the input may end only between sections
abbrev pub ended_at : SectionState → Result (Unit {0}) RestoreFault
ended_at Between = Ok tt
ended_at Skipping = Err EndBeforeCommit
ended_at (Building s) = Err EndBeforeCommit

-- what lines give one after another, up to the first refusal
abbrev pub restore_lines : Restoring → List (List ℕ) → Result Restoring RestoreFault
restore_lines s [] = Ok s
restore_lines s (line ∷ lines) = restore_line s.restore s.table line >>= λ next. restore_lines next lines

-- the table that a whole restore gives, or its first fault
abbrev pub restored : Bool → Bool → Table → List (List ℕ) → Result Table RestoreFault
restored noflush test t lines =
    restore_lines (record { table = t; restore = begun_restore noflush test }) lines >>= λ (s : Restoring).
    made_into (λ done. s.table) (ended_at s.restore.state)

-- a section is being skipped
abbrev pub is_skipping : SectionState → Bool
is_skipping Between = false
is_skipping Skipping = true
is_skipping (Building s) = false

-- reading the line takes no memory: it is too long, blank, a comment, in a skipped section, or `COMMIT`
abbrev pub takes_no_memory : SectionState → List ℕ → Bool
takes_no_memory state line = is_too_long line || is_skipping state || is_quiet line || is_commit line
