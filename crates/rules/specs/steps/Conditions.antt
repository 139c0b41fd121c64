-- The steps by which a box is made: what a set has of some numbers, and how each condition leaves fewer numbers on its field.
use Rattle.std.specs.Prelude.{◌≡◌, ℕ, true, false, ◌≤◌, Bool, ◌&&◌, List, map, slice_index, nat_le, Option, Some, None, if◌then◌else◌}
use Rattle.fields.specs.numbers.Spans.{SpanSet, has}
use Rattle.fields.specs.declared.numbers.field.Field.{Field}
use Rattle.fields.specs.numbers.Field.{all_fields, top}
use Rattle.rules.specs.rule.Crossing.{HasMember, IsParted}
use Rattle.rules.specs.declared.rule.port_sets.Share.{Share}
use Rattle.rules.specs.declared.boxing.condition.Condition.{Condition}
use Rattle.rules.specs.rule.Allows.{same_field}
use Rattle.rules.specs.Boxed.{AreSetsOf}
use Rattle.rules.specs.declared.rule.port_sets.Share.TheVariants as share

-- ---- What a set has of some numbers.

-- the set's numbers are all listed, or none is, or some are and some aren't
abbrev pub IsShareOf : SpanSet → SpanSet → Share → Type 0
IsShareOf own listed share.All = (x : ℕ) → HasMember own x → has listed.intervals x ≡ true
IsShareOf own listed share.Nothing = (x : ℕ) → HasMember own x → has listed.intervals x ≡ false
IsShareOf own listed share.Part = IsParted own listed

-- ---- The steps by which a box is made: each condition leaves fewer numbers on its field.

-- a condition on the field, if there is one, has just the numbers that pass the test
abbrev pub Asks : Option Field → (ℕ → Bool) → Option Condition → Type 0
Asks field passes None = field ≡ None
Asks field passes (Some c) =
    (field ≡ Some c.field) × (c.set.top ≡ top c.field) × ((x : ℕ) → x ≤ top c.field → has c.set.intervals x ≡ passes x)

-- whether a condition allows a number of a field
abbrev pub condition_allows : Field → ℕ → Condition → Bool
condition_allows f x c = if same_field f c.field then has c.set.intervals x else true

-- of the numbers before, those that pass the test are left
abbrev pub Narrows : (Field → ℕ → Bool) → List SpanSet → List SpanSet → Type 0
Narrows passes old new = (before : Field → ℕ → Bool) → AreSetsOf before old → AreSetsOf (λ f x. before f x && passes f x) new

-- all numbers of the field at a place
pub record HasAllNumbers (place : ℕ) (s : SpanSet) : Type 0 where
  pub top : s.top ≡ slice_index (map top all_fields) place
  pub members : (x : ℕ) → has s.intervals x ≡ nat_le x s.top
