-- Rows of options and matches as the code has them, and where it puts an option among others.
use Rattle.std.specs.Prelude.{ℕ, List, map, ◌≡◌, ◌+◌, nat_lt, [], ◌∷◌, if◌then◌else◌}
use Rattle.std.specs.Borrow.{Bor}
use Rattle.rules.specs.declared.options.option.Opt.{Opt}
use Rattle.rules.specs.declared.options.option.OptionSpec.{OptionSpec}
use Rattle.rules.specs.declared.options.match_kind.MatchKind.{MatchKind}
use Rattle.rules.specs.declared.options.match_kind.MatchRow.{MatchRow}
use Rattle.rules.specs.options.OptionValues.{slot_of}
use Rattle.rules.specs.declared.options.option_value.OptionValue.{OptionValue}
use Rattle.rules.specs.options.Options as table
use Rattle.rules.specs.options.Matches as matches

-- ---- The spellings of an option as the code has them.

-- the spellings that references point to
abbrev pub names_now : List (Bor (List ℕ)) → List (List ℕ)
names_now names = map (λ (name : Bor (List ℕ)). name.now) names

-- ---- An option's row as the code has it.

-- the row is that of the option
pub record IsOptionSpec (row : OptionSpec) (option : Opt) : Type 0 where
  pub names : names_now row.names.now ≡ (table.option_row option).names
  pub values : row.values ≡ (table.option_row option).values
  pub inverts : row.inverts ≡ (table.option_row option).inverts
  pub owner : row.owner ≡ (table.option_row option).owner
  pub slot : row.slot ≡ (table.option_row option).slot

-- ---- A match's row as the code has it.

-- the row is that of the match
pub record IsMatchRow (row : MatchRow) (kind : MatchKind) : Type 0 where
  pub name : row.name.now ≡ (matches.match_row kind).name
  pub protocols : row.protocols.now ≡ (matches.match_row kind).protocols
  pub needs_option : row.needs_option ≡ (matches.match_row kind).needs_option
  pub asks_fragment : row.asks_fragment ≡ (matches.match_row kind).asks_fragment

-- ---- Where the code puts an option among others.

-- how many stand before the first one of a later place
abbrev pub rank : ℕ → List OptionValue → ℕ
rank slot [] = 0
rank slot (s ∷ ss) = if nat_lt slot (slot_of s) then 0 else rank slot ss + 1
