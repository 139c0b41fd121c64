-- The levels that `--log-level` takes (iptables-extensions(8), LOG).
use Rattle.std.specs.Prelude.{ℕ, ◌==◌, List, [], ◌∷◌, Option, find, codes, decimal}
use Rattle.std.specs.Option.{option_or}
use Rattle.std.specs.Str.{bytes_eq}
use Rattle.fields.specs.Sequence.{◌>>=◌}
use Rattle.fields.specs.text.Number.{number_to}
use Rattle.fields.specs.declared.values.log_level.LogLevel.{LogLevel}
use Rattle.fields.specs.declared.values.log_level.LogLevel.TheVariants.{Emerg, Alert, Crit, Error, Warning, Notice, Info, Debug}

-- a level's number and name
pub record LevelRow : Type 0 where
  pub number : ℕ
  pub name : List ℕ

-- a row of these
abbrev pub row : ℕ → List ℕ → LevelRow
row number name = record { number = number; name = name }

-- the table of levels
abbrev pub row_of : LogLevel → LevelRow
row_of Emerg = row 0 (codes "emerg")
row_of Alert = row 1 (codes "alert")
row_of Crit = row 2 (codes "crit")
row_of Error = row 3 (codes "error")
row_of Warning = row 4 (codes "warning")
row_of Notice = row 5 (codes "notice")
row_of Info = row 6 (codes "info")
row_of Debug = row 7 (codes "debug")

-- the level's number
abbrev pub level_number : LogLevel → ℕ
level_number level = (row_of level).number

-- the level's name
abbrev pub level_name : LogLevel → List ℕ
level_name level = (row_of level).name

-- the first of some levels with this number
abbrev pub level_at : ℕ → List LogLevel → Option LogLevel
level_at n levels = find (λ level. level_number level == n) levels

-- the first of some levels with this name
abbrev pub level_named : List ℕ → List LogLevel → Option LogLevel
level_named text levels = find (λ level. bytes_eq (level_name level) text) levels

-- the levels, the most urgent first
abbrev pub all_levels : List LogLevel
all_levels = Emerg ∷ Alert ∷ Crit ∷ Error ∷ Warning ∷ Notice ∷ Info ∷ Debug ∷ []

-- the level that a text stands for: a number up to 7, or a name
unfoldable pub log_level_of : List ℕ → Option LogLevel
log_level_of text = option_or (number_to 7 text >>= λ n. level_at n all_levels) (level_named text all_levels)

-- the number of a level, as it is printed
abbrev pub log_level_text : LogLevel → List ℕ
log_level_text level = decimal (level_number level)
