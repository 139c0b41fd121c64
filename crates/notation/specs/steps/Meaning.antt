-- A set has the numbers of which a value, or one of some values, holds.
use Rattle.std.specs.Prelude.{◌≡◌, ℕ, ◌≤◌, Bool, true, List, Option, is_some}
use Rattle.fields.specs.declared.numbers.field.Field.{Field}
use Rattle.fields.specs.numbers.Field.{top}
use Rattle.fields.specs.numbers.Spans.{SpanSet, has}
use Rattle.notation.specs.Words.{are_known, means, one_means}

-- the value is known, and up to the field's top the set has just the numbers of which it holds
pub record HasMeant (f : Field) (meaning : Option (ℕ → Bool)) (set : SpanSet) : Type 0 where
  pub known : is_some meaning ≡ true
  pub greatest : set.top ≡ top f
  pub members : (x : ℕ) → x ≤ top f → has set.intervals x ≡ means meaning x

-- each of some values is known, and the set has just the numbers of which one of them holds
pub record HasOneMeant (f : Field) (values : List (List ℕ)) (set : SpanSet) : Type 0 where
  pub known : are_known f values ≡ true
  pub greatest : set.top ≡ top f
  pub members : (x : ℕ) → x ≤ top f → has set.intervals x ≡ one_means f values x
