-- Sets of numbers up to a top, as lists of intervals that contain both of their ends.
use Rattle.std.specs.Prelude.{◌≡◌, ℕ, ◌+◌, ◌≤◌, ◌&&◌, nat_le, Bool, List, [], ◌∷◌}
use Rattle.std.specs.List.{list_any}
use Rattle.fields.specs.declared.numbers.spans.Interval.{Interval}

-- whether a number is in an interval
abbrev pub in_span : ℕ → Interval → Bool
in_span x s = nat_le s.first x && nat_le x s.last

-- whether a number is in one of the intervals
abbrev pub has : List Interval → ℕ → Bool
has spans x = list_any (in_span x) spans

-- the intervals rise, from `low` to `top`, and between each two there is a number that is in neither; so each set has one such list
abbrev pub AreSpansFrom : ℕ → ℕ → List Interval → Type 0
AreSpansFrom top low [] = Unit {0}
AreSpansFrom top low (s ∷ ss) = (low ≤ s.first) × (s.first ≤ s.last) × (s.last ≤ top) × AreSpansFrom top (s.last + 2) ss

-- a set of numbers: its top, and its intervals
pub record SpanSet : Type 0 where
  pub top : ℕ
  pub intervals : List Interval

-- two such lists that have the same numbers up to the top are the same list
abbrev pub CanonicalIsUnique : Type 0
CanonicalIsUnique =
    (top : ℕ) (a b : List Interval) → AreSpansFrom top 0 a → AreSpansFrom top 0 b → ((x : ℕ) → x ≤ top → has a x ≡ has b x) → a ≡ b
