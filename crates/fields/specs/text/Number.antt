-- Decimal numbers as they are written.
use Rattle.std.specs.Prelude.{◌≡◌, ℕ, ◌+◌, ◌-◌, ◌*◌, ◌<◌, ◌==◌, Bool, not, ◌&&◌, ◌||◌, nat_lt, nat_le, List, [], ◌∷◌, length, slice_index}
use Rattle.std.specs.Prelude.{Option, Some, None, if◌then◌else◌, decimal}
use Rattle.std.specs.Char.{is_ascii_digit}

-- the text is the decimal text of n, without leading zeros, and n has at most nine digits
abbrev pub IsNumber : List ℕ → ℕ → Type 0
IsNumber text n = (text ≡ decimal n) × (n < 1000000000)

-- the number that these digits make after the digits of n, if all are digits
abbrev pub number_from : ℕ → List ℕ → Option ℕ
number_from n [] = Some n
number_from n (b ∷ bs) = if is_ascii_digit b then number_from (n * 10 + (b - 48)) bs else None

-- 1 to 9 bytes, the first of which isn't `0` unless it is the only one
abbrev pub has_number_form : List ℕ → Bool
has_number_form text = nat_lt 0 (length text) && nat_le (length text) 9 && (length text == 1 || not (slice_index text 0 == 48))

-- the number that a text stands for: n exactly where `IsNumber text n`
unfoldable pub number_of : List ℕ → Option ℕ
number_of text = if has_number_form text then number_from 0 text else None

-- the number, if it is at most `top`
abbrev pub at_most : ℕ → Option ℕ → Option ℕ
at_most top None = None
at_most top (Some n) = if nat_le n top then Some n else None

-- the number up to `top` that a text stands for
unfoldable pub number_to : ℕ → List ℕ → Option ℕ
number_to top text = at_most top (number_of text)
