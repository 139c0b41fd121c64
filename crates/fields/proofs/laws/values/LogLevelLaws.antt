-- The text of a level gives it back.
use Rattle.std.proofs.Common.{◌≡◌, ℕ, ◌≤◌, ◌<◌, Some, ap, lit≤, lit<}
use Rattle.std.specs.Prelude.{decimal}
use Rattle.std.specs.Option.{option_or}
use Rattle.fields.specs.Sequence.{◌>>=◌}
use Rattle.fields.specs.values.LogLevel.{level_at, level_named, log_level_of, log_level_text}
use Rattle.fields.specs.declared.values.log_level.LogLevel.{LogLevel}
use Rattle.fields.specs.declared.values.log_level.LogLevel.TheVariants.{Emerg, Alert, Crit, Error, Warning, Notice, Info, Debug}
use Rattle.fields.specs.declared.values.log_level.TheConstants.LogLevel.{ALL}
use Rattle.fields.proofs.laws.text.NumberLaws.{number_to-decimal}

-- a number up to 7 is read as the level with this number
read-number : (n : ℕ) → n ≤ 7 → n < 1000000000 → log_level_of (decimal n) ≡ option_or (level_at n ALL) (level_named (decimal n) ALL)
unfolding log_level_of
read-number n within small = ap (λ o. option_or (o >>= λ m. level_at m ALL) (level_named (decimal n) ALL)) (number_to-decimal 7 n within small)

pub reads_back : (level : LogLevel) → log_level_of (log_level_text level) ≡ Some level
reads_back Emerg = read-number 0 (lit≤ tt) (lit< tt)
reads_back Alert = read-number 1 (lit≤ tt) (lit< tt)
reads_back Crit = read-number 2 (lit≤ tt) (lit< tt)
reads_back Error = read-number 3 (lit≤ tt) (lit< tt)
reads_back Warning = read-number 4 (lit≤ tt) (lit< tt)
reads_back Notice = read-number 5 (lit≤ tt) (lit< tt)
reads_back Info = read-number 6 (lit≤ tt) (lit< tt)
reads_back Debug = read-number 7 (lit≤ tt) (lit< tt)
