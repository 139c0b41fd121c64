-- The intervals of a set are parts that have texts.
use Rattle.std.proofs.Common.{◌≡◌, ℕ, zero, suc, ◌+◌, ◌<◌, ◌≤◌, ◌||◌, true, List, [], ◌∷◌, ◌++◌, length, get_or, refl, ap, sym, subst, ◌∙◌, arith, eq-eqb}
use Rattle.std.specs.Prelude.{All}
use Rattle.std.specs.List.{list_any}
use Rattle.fields.specs.declared.numbers.field.Field.{Field}
use Rattle.fields.specs.declared.numbers.field.Field.TheVariants as field
use Rattle.fields.specs.declared.numbers.spans.Interval.{Interval}
use Rattle.fields.specs.numbers.Field.{top}
use Rattle.fields.specs.numbers.Spans.{AreSpansFrom}
use Rattle.notation.specs.IntervalText.{IsPart, is_one, is_row}
use Rattle.notation.specs.Range.{state_ranges}

-- each is within the top
are-within : (most low : ℕ) (spans : List Interval) → AreSpansFrom most low spans → All (λ s. (s.first ≤ s.last) × (s.last ≤ most)) spans
are-within most low [] are k d inside = absurd (omega arith)
are-within most low (s ∷ ss) (above, ordered, within, rest) zero d inside = (ordered, within)
are-within most low (s ∷ ss) (above, ordered, within, rest) (suc k) d inside = are-within most (s.last + 2) ss rest k d (omega arith)

pub lent-part : (f : Field) (most : ℕ) (spans lent : List Interval) (i : ℕ) (d : Interval) → most ≡ top f → AreSpansFrom most 0 spans → lent ≡ spans → i < length lent
    → ((get_or lent i d).first ≤ (get_or lent i d).last) × ((get_or lent i d).last ≤ top f)
lent-part f most spans lent i d is are whole inside =
    let P : List Interval → Type 0 = λ l. All (λ s. (s.first ≤ s.last) × (s.last ≤ most)) l in
    let (ordered, within) = subst P (sym whole) (are-within most 0 spans are) i d inside in
    (ordered, subst (λ n. (get_or lent i d).last ≤ n) is within)

-- one number has a text
one-number : (f : Field) (n : ℕ) → is_one f (record { first = n; last = n }) ≡ true
one-number field.TcpFlags n = eq-eqb n n refl
one-number field.ConnectionState n = ap (λ b. b || list_any (is_row (record { first = n; last = n })) state_ranges) (eq-eqb n n refl)
one-number _ n = refl

-- one number
one-part : (f : Field) (n : ℕ) → n ≤ top f → IsPart f (record { first = n; last = n })
one-part f n within = record { ordered = omega arith; within = within; one = one-number f n }

-- a part more
pub one-more : (f : Field) (parts : List Interval) (s : Interval) → All (IsPart f) parts → IsPart f s → All (IsPart f) (parts ++ s ∷ [])
one-more f [] s are is zero d inside = is
one-more f [] s are is (suc k) d inside = absurd (omega arith)
one-more f (p ∷ ps) s are is zero d inside = are zero d (omega arith)
one-more f (p ∷ ps) s are is (suc k) d inside = one-more f ps s (λ j e within. are (suc j) e (omega arith)) is k d (omega arith)

pub one-number-more : (f : Field) (parts items : List Interval) (n : ℕ) → n ≤ top f → items ≡ parts ++ record { first = n; last = n } ∷ [] → All (IsPart f) parts → All (IsPart f) items
one-number-more f parts items n within same are =
    let P : List Interval → Type 0 = λ l. All (IsPart f) l in
    subst P (sym same) (one-more f parts (record { first = n; last = n }) are (one-part f n within))

-- the first, and those after it
pub first-part : (f : Field) (spans : List Interval) (s : Interval) (rest : List Interval) → spans ≡ s ∷ rest → All (IsPart f) spans → IsPart f s
first-part f spans s rest whole are = let P : List Interval → Type 0 = λ l. All (IsPart f) l in subst P whole are zero s (omega arith)

pub rest-parts : (f : Field) (spans : List Interval) (s : Interval) (rest : List Interval) → spans ≡ s ∷ rest → All (IsPart f) spans → All (IsPart f) rest
rest-parts f spans s rest whole are k d inside = let P : List Interval → Type 0 = λ l. All (IsPart f) l in subst P whole are (suc k) d (omega arith)
