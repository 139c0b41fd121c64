-- Laws of sets of numbers as lists of intervals: which numbers they have, how one is searched, and that a canonical list is the only one.
use Rattle.std.proofs.Common.{◌≡◌, inl, inr, ℕ, ◌+◌, ◌<◌, ◌≤◌, ◌&&◌, ◌||◌, true, false, List, [], ◌∷◌, refl, sym, ◌∙◌, ap, arith, zero, suc, Bool, length, get_or, ltb-true, ltb-false, Option, Some, None, is_some, IfSome, MatchOption, Bor, ◌-◌, ◌*◌, ◌/◌, ◌^◌, ◌==◌, not, eq-eqb, ne_eqb}
use Rattle.std.specs.Prelude.{nat_le}
use Rattle.std.proofs.Math.Dec.{leb, ltb}
use Rattle.std.proofs.Math.Bool.{and-false}
use Rattle.std.proofs.lemmas.Bool.{le-leb, lt-leb, cases_lt, true≢false}
use Rattle.std.specs.List.Sorted.{IsNonDecreasingBy, IsPartitionPoint}
use Rattle.std.proofs.Math.Nat.{lt-div-mul-add, div-mul-le_self, div-eq_of_lt-le, mul-le-mul_right}
use Rattle.std.proofs.Math.Pow.{pow_pos, pow-add}
use Rattle.std.proofs.lemmas.Nat.{div_below}
use Rattle.fields.specs.declared.numbers.spans.Interval.{Interval}
use Rattle.fields.specs.numbers.Spans.{has, in_span, AreSpansFrom}

-- ---- Laws of sets of numbers.

-- ---- one interval

pub out_below : (s : Interval) (x : ℕ) → x < s.first → in_span x s ≡ false
out_below s x lt = ap (λ b. b && leb x s.last) (lt-leb s.first x lt)

pub out_above : (s : Interval) (x : ℕ) → s.last < x → in_span x s ≡ false
out_above s x lt = ap (λ b. leb s.first x && b) (lt-leb x s.last lt) ∙ and-false (leb s.first x)

pub in_it : (s : Interval) (x : ℕ) → s.first ≤ x → x ≤ s.last → in_span x s ≡ true
in_it s x a b = ap (λ c. c && leb x s.last) (le-leb s.first x a) ∙ le-leb x s.last b

-- ---- a list of intervals

-- no number below low is in the intervals from low on
pub none_below : (top low x : ℕ) (spans : List Interval) → AreSpansFrom top low spans → x < low → has spans x ≡ false
none_below top low x [] h lt = refl
none_below top low x (s ∷ ss) h lt = ap (λ b. b || has ss x) (out_below s x (omega (arith, h.0))) ∙ none_below top (s.last + 2) x ss h.3 (omega (arith, h.0, h.1))

-- a number in the first interval is in the list, and any other one is in the list if it is in the rest
pub has_first : (s : Interval) (ss : List Interval) (x : ℕ) → s.first ≤ x → x ≤ s.last → has (s ∷ ss) x ≡ true
has_first s ss x a b = ap (λ c. c || has ss x) (in_it s x a b)

pub has_above : (s : Interval) (ss : List Interval) (x : ℕ) → s.last < x → has (s ∷ ss) x ≡ has ss x
has_above s ss x lt = ap (λ c. c || has ss x) (out_above s x lt)

-- what rises from a number on, rises from any lower one on
pub from_lower : (top low lower : ℕ) (spans : List Interval) → lower ≤ low → AreSpansFrom top low spans → AreSpansFrom top lower spans
from_lower top low lower [] le h = tt
from_lower top low lower (s ∷ ss) le h = (omega (arith, h.0), h.1, h.2, h.3)

-- where no number below low is in the intervals, they rise from low on
pub from_members : (top low : ℕ) (spans : List Interval) → AreSpansFrom top 0 spans → ((x : ℕ) → x < low → has spans x ≡ false) → AreSpansFrom top low spans
from_members top low [] h none = tt
from_members top low (s ∷ ss) h none =
    let at_least : low ≤ s.first = elim (cases_lt s.first low) [
      | inl lt ↦ absurd (true≢false (sym (has_first s ss s.first (omega arith) h.1) ∙ none s.first lt))
      | inr ge ↦ ge
    ] in
    (at_least, h.1, h.2, h.3)

-- ---- A number is in the intervals if it is in the first one that does not end before it.

-- the ends rise
ends_from : (top low : ℕ) (spans : List Interval) (i : ℕ) (d : Interval) → AreSpansFrom top low spans → i < length spans → low ≤ (get_or spans i d).last
ends_from top low [] i d h lt = absurd (omega arith)
ends_from top low (s ∷ ss) zero d h lt = omega (arith, h.0, h.1)
ends_from top low (s ∷ ss) (suc i) d h lt = omega (arith, h.0, h.1, ends_from top (s.last + 2) ss i d h.3 (omega arith))

ends_rise_at : (top low : ℕ) (spans : List Interval) (i j : ℕ) (d : Interval) → AreSpansFrom top low spans → i ≤ j → j < length spans → (get_or spans i d).last ≤ (get_or spans j d).last
ends_rise_at top low [] i j d h le lt = absurd (omega arith)
ends_rise_at top low (s ∷ ss) zero zero d h le lt = omega arith
ends_rise_at top low (s ∷ ss) zero (suc j) d h le lt = omega (arith, ends_from top (s.last + 2) ss j d h.3 (omega arith))
ends_rise_at top low (s ∷ ss) (suc i) zero d h le lt = absurd (omega arith)
ends_rise_at top low (s ∷ ss) (suc i) (suc j) d h le lt = ends_rise_at top (s.last + 2) ss i j d h.3 (omega arith) (omega arith)

pub ends_rise : (top low : ℕ) (spans : List Interval) → AreSpansFrom top low spans → IsNonDecreasingBy (λ (s : Interval). s.last) spans
ends_rise top low spans h = λ i j d le lt. ends_rise_at top low spans i j d h le lt

-- where all intervals end before a number, it is in none; else it is in the first one that does not, or in none
pub found_none : (top low x : ℕ) (spans : List Interval) → AreSpansFrom top low spans → ((k : ℕ) (d : Interval) → k < length spans → (get_or spans k d).last < x) → has spans x ≡ false
found_none top low x [] h all = refl
found_none top low x (s ∷ ss) h all =
    has_above s ss x (all 0 s (omega arith)) ∙ found_none top (s.last + 2) x ss h.3 (λ k d lt. all (suc k) d (omega arith))

pub found : (top low x : ℕ) (spans : List Interval) (i : ℕ) (d : Interval) → AreSpansFrom top low spans → i < length spans → ((k : ℕ) (e : Interval) → k < i → (get_or spans k e).last < x)
    → x ≤ (get_or spans i d).last → has spans x ≡ leb (get_or spans i d).first x
found top low x [] i d h lt all ends = absurd (omega arith)
found top low x (s ∷ ss) zero d h lt all ends =
    elim (cases_lt x s.first) [
      | inl below ↦ (none_below top s.first x (s ∷ ss) (omega arith, h.1, h.2, h.3) below ∙ sym (lt-leb s.first x below))
      | inr from ↦ (has_first s ss x from ends ∙ sym (le-leb s.first x from))
    ]
found top low x (s ∷ ss) (suc i) d h lt all ends =
    has_above s ss x (all 0 s (omega arith)) ∙ found top (s.last + 2) x ss i d h.3 (omega arith) (λ k e k_lt. all (suc k) e (omega arith)) ends

-- what the look-up at the partition point of the ends tells of a number
pub searched : (top x place : ℕ) (spans : List Interval) (got : Option (Bor Interval)) (answer : Bool) → AreSpansFrom top 0 spans
    → IsPartitionPoint (λ (s : Interval). ltb s.last x ≡ true) (λ (s : Interval). ltb s.last x ≡ false) spans place → is_some got ≡ ltb place (length spans)
    → IfSome got (λ (s : Bor Interval). s.now ≡ get_or spans place s.now) → MatchOption got (answer ≡ false) (λ (s : Bor Interval). answer ≡ leb s.now.first x) → answer ≡ has spans x
searched top x place spans None answer h point within is said =
    let end : length spans ≤ place = ltb-false place (length spans) (sym within) in
    said ∙ sym (found_none top 0 x spans h (λ k d lt. ltb-true (get_or spans k d).last x (point.0 k d (omega arith) (omega arith))))
searched top x place spans (Some s) answer h point within is said =
    let lt : place < length spans = ltb-true place (length spans) (sym within) in
    let ends : x ≤ (get_or spans place s.now).last = ltb-false (get_or spans place s.now).last x (point.1 place s.now (omega arith) lt) in
    said ∙ ap (λ (t : Interval). leb t.first x) is ∙ sym (found top 0 x spans place s.now h lt (λ k e k_lt. ltb-true (get_or spans k e).last x (point.0 k e (omega arith) k_lt)) ends)

-- ---- Two canonical lists of intervals with the same numbers are one list.

-- the first interval begins at the least number
first_least : (top low x : ℕ) (s : Interval) (ss : List Interval) → AreSpansFrom top low (s ∷ ss) → has (s ∷ ss) x ≡ true → s.first ≤ x
first_least top low x s ss h is =
    elim (cases_lt x s.first) [
      | inl lt ↦ absurd (true≢false (sym is ∙ none_below top s.first x (s ∷ ss) (omega arith, h.1, h.2, h.3) lt))
      | inr ge ↦ ge
    ]

-- of two first intervals that begin alike, the one that ends later has the number behind the other one's end
no_longer : (top low : ℕ) (s t : Interval) (ss ts : List Interval) → AreSpansFrom top low (s ∷ ss) → AreSpansFrom top low (t ∷ ts)
    → s.first ≡ t.first → ((x : ℕ) → x ≤ top → has (s ∷ ss) x ≡ has (t ∷ ts) x) → t.last ≤ s.last
no_longer top low s t ss ts g h first same =
    elim (cases_lt s.last t.last) [
      | inl lt ↦ (
          let out : has (s ∷ ss) (s.last + 1) ≡ false = has_above s ss (s.last + 1) (omega arith) ∙ none_below top (s.last + 2) (s.last + 1) ss g.3 (omega arith) in
          let is : has (t ∷ ts) (s.last + 1) ≡ true = has_first t ts (s.last + 1) (omega (arith, g.1)) (omega arith) in
          absurd (true≢false (sym is ∙ sym (same (s.last + 1) (omega (arith, h.2))) ∙ out)))
      | inr ge ↦ ge
    ]

one_interval : (s t : Interval) → s.first ≡ t.first → s.last ≡ t.last → s ≡ t
one_interval s t first last =
    let interval : ℕ → ℕ → Interval = λ m n. record { first = m; last = n } in
    ap (λ (m : ℕ). interval m s.last) first ∙ ap (λ (n : ℕ). interval t.first n) last

pub unique : (top low : ℕ) (a b : List Interval) → AreSpansFrom top low a → AreSpansFrom top low b → ((x : ℕ) → x ≤ top → has a x ≡ has b x) → a ≡ b
unique top low [] [] g h same = refl
unique top low [] (t ∷ ts) g h same = absurd (true≢false (sym (has_first t ts t.first (omega arith) h.1) ∙ sym (same t.first (omega (arith, h.1, h.2)))))
unique top low (s ∷ ss) [] g h same = absurd (true≢false (sym (has_first s ss s.first (omega arith) g.1) ∙ same s.first (omega (arith, g.1, g.2))))
unique top low (s ∷ ss) (t ∷ ts) g h same =
    let a : s.first ≤ t.first = first_least top low t.first s ss g (same t.first (omega (arith, h.1, h.2)) ∙ has_first t ts t.first (omega arith) h.1) in
    let b : t.first ≤ s.first = first_least top low s.first t ts h (sym (same s.first (omega (arith, g.1, g.2))) ∙ has_first s ss s.first (omega arith) g.1) in
    let first : s.first ≡ t.first = omega arith in
    let c : t.last ≤ s.last = no_longer top low s t ss ts g h first same in
    let d : s.last ≤ t.last = no_longer top low t s ts ss h g (sym first) (λ x le. sym (same x le)) in
    let last : s.last ≡ t.last = omega arith in
    let behind : AreSpansFrom top (s.last + 2) ts = rw last h.3 in
    let rest : (x : ℕ) → x ≤ top → has ss x ≡ has ts x = λ x le. elim (cases_lt s.last x) [
      | inl lt ↦ (sym (has_above s ss x lt) ∙ same x le ∙ has_above t ts x (omega arith))
      | inr ge ↦ (none_below top (s.last + 2) x ss g.3 (omega arith) ∙ sym (none_below top (s.last + 2) x ts behind (omega arith)))
    ] in
    let tails : ss ≡ ts = unique top (s.last + 2) ss ts g.3 behind rest in
    let heads : s ≡ t = one_interval s t first last in
    cc

-- ---- The interval of a prefix, and boolean laws of sets.

-- a number has the same whole part as a multiple of b where it lies in the block of b numbers that begins there
pub in_block : (b a x : ℕ) → 0 < b → a / b * b ≡ a → (x / b == a / b) ≡ (nat_le a x && nat_le x (a + (b - 1)))
in_block b a x some clear =
    let low : x / b * b ≤ x = div-mul-le_self x b in
    let high : x < x / b * b + b = lt-div-mul-add some in
    elim (cases_lt x a) [
      | inl before ↦ (ne_eqb (x / b) (a / b) (λ e. (let f : x / b * b ≡ a / b * b = ap (λ (q : ℕ). q * b) e in omega arith))
          ∙ sym (ap (λ t. t && nat_le x (a + (b - 1))) (lt-leb a x before)))
      | inr from ↦ elim (cases_lt (a + (b - 1)) x) [
        | inl behind ↦ (ne_eqb (x / b) (a / b) (λ e. (let f : x / b * b ≡ a / b * b = ap (λ (q : ℕ). q * b) e in omega arith))
            ∙ sym (ap (λ t. nat_le a x && t) (lt-leb x (a + (b - 1)) behind) ∙ and-false (nat_le a x)))
        | inr within ↦ (
            let same : x / b ≡ a / b = div-eq_of_lt-le b (omega arith) (omega arith) in
            eq-eqb (x / b) (a / b) same ∙ sym (ap (λ t. t && nat_le x (a + (b - 1))) (le-leb a x from) ∙ le-leb x (a + (b - 1)) within))
      ]
    ]

-- and the block ends below a power of 2 that the block's size divides
pub block_within : (n a : ℕ) → n ≤ 32 → a < 2 ^ 32 → a / 2 ^ (32 - n) * 2 ^ (32 - n) ≡ a → a + (2 ^ (32 - n) - 1) ≤ 4294967295
block_within n a short small clear =
    let b : ℕ = 2 ^ (32 - n) in
    let some : 0 < b = pow_pos (32 - n) in
    let e : 32 ≡ n + (32 - n) = omega arith in
    let whole : 2 ^ 32 ≡ 2 ^ n * b = ap (λ (s : ℕ). 2 ^ s) e ∙ pow-add 2 n (32 - n) in
    let q : a / b < 2 ^ n = div_below a b (2 ^ n) some (omega (arith, whole)) in
    let le : (a / b + 1) * b ≤ 2 ^ n * b = mul-le-mul_right b (omega (arith, q)) in
    let out : (a / b + 1) * b ≡ a / b * b + b = suc_times (a / b) b in
    omega (arith, le, out, whole, clear, some)
  where
    suc_times : (k m : ℕ) → (k + 1) * m ≡ k * m + m
    suc_times k m = grind arith

-- what isn't in neither of two sets is in one of them
pub neither : (a b out_a out_b none either : Bool) → out_a ≡ not a → out_b ≡ not b → none ≡ (out_a && out_b) → either ≡ not none → either ≡ (a || b)
neither a b out_a out_b none either f g h is = is ∙ ap not (h ∙ ap (λ t. t && out_b) f ∙ ap (λ t. not a && t) g) ∙ go a b
  where
    go : (a b : Bool) → not (not a && not b) ≡ (a || b)
    go true b = refl
    go false true = refl
    go false false = refl
