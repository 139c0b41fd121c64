-- Laws of numbers as they are written, and of the bytes of their digits.
use Rattle.std.proofs.Common.{◌≡◌, ◌==◌, ℕ, zero, suc, ◌+◌, ◌-◌, ◌*◌, ◌^◌, ◌<◌, ◌≤◌, Bool, true, false, cond, not, ◌&&◌, ◌||◌, List, [], ◌∷◌, length, get_or, Option, None, Some, refl, sym, ap, subst, ◌∙◌, arith, inl, inr, leb, ne_eqb, eq-eqb}
use Rattle.std.specs.Prelude.{decimal, IfSome}
use Rattle.std.specs.Char.{is_ascii_digit}
use Rattle.std.specs.Str.{all_ascii_digits}
use Rattle.std.proofs.Math.Nat.{pow-suc}
use Rattle.std.proofs.lemmas.Bool.{and_parts, and_from, lt-ltb, le-leb, ltb-true, leb-true, eqb-true, cases_lt, or_right}
use Rattle.std.proofs.lemmas.Fmt.{decimal_digit, decimal_nonempty, first_decimal, length-decimal-le, digits_decimal, digits_value-decimal, decimal-digits_value}
use Rattle.std.proofs.lemmas.Str.Parse.{IsNumeralModel, numerals_by_fold, tells_all_ascii_digits, digits_value_short}
use Rattle.std.specs.List.{list_all}
use Rattle.fields.specs.text.Number.{IsNumber, number_from, has_number_form, number_of, at_most, number_to}
use Rattle.fields.proofs.laws.ListLaws.{all-weaker}

-- ---- Laws of numbers as they are written.

power_up : (i : ℕ) → i ≤ 8 → 10 ^ i ≤ 100000000
power_up i h = go i (8 - i) (omega arith)
  where
    go : (i j : ℕ) → i + j ≡ 8 → 10 ^ i ≤ 100000000
    go i zero e = let i-is : i ≡ 8 = omega arith in subst (λ (n : ℕ). 10 ^ n ≤ 100000000) (sym i-is) (omega arith)
    go i (suc j) e = let next = go (suc i) j (omega arith) in omega (arith, pow-suc 10 i, next)

-- what a digit makes of a number
pub more_digits : (i v d : ℕ) → i ≤ 8 → v < 10 ^ i → d < 10 → (v * 10 < 2 ^ 32) × (v * 10 + d < 2 ^ 32)
more_digits i v d h small digit = let bound = power_up i h in (omega (arith, bound), omega (arith, bound))

-- the number of digits behind another
abbrev pub folded : ℕ → List ℕ → ℕ
folded n [] = n
folded n (b ∷ bs) = folded (n * 10 + (b - 48)) bs

pub numeral : IsNumeralModel (λ ds. all_ascii_digits ds ≡ true) (folded 0)
numeral = numerals_by_fold (λ ds. all_ascii_digits ds ≡ true) tells_all_ascii_digits folded (record { empty = λ n. refl; more = λ n c cs h. refl })

-- digits alone are read
number_from_some : (k : ℕ) (bs : List ℕ) → all_ascii_digits bs ≡ true → number_from k bs ≡ Some (folded k bs)
number_from_some k [] all = refl
number_from_some k (b ∷ bs) all =
    let (first, others) = and_parts (is_ascii_digit b) (all_ascii_digits bs) all in
    ap (λ t. cond t (number_from (k * 10 + (b - 48)) bs) None) first ∙ number_from_some (k * 10 + (b - 48)) bs others

pub number_of-digits : (bs : List ℕ) → all_ascii_digits bs ≡ true → has_number_form bs ≡ true → number_of bs ≡ Some (folded 0 bs)
unfolding number_of
number_of-digits bs all form = ap (λ t. cond t (number_from 0 bs) None) form ∙ number_from_some 0 bs all

-- and nothing else
number_from_only : (k n : ℕ) (bs : List ℕ) → number_from k bs ≡ Some n → (all_ascii_digits bs ≡ true) × (folded k bs ≡ n)
number_from_only k n [] e = (refl, cc)
number_from_only k n (b ∷ bs) e = go (is_ascii_digit b) e (number_from_only (k * 10 + (b - 48)) n bs)
  where
    go : (t : Bool) → cond t (number_from (k * 10 + (b - 48)) bs) None ≡ Some n
        → (number_from (k * 10 + (b - 48)) bs ≡ Some n → (all_ascii_digits bs ≡ true) × (folded (k * 10 + (b - 48)) bs ≡ n))
        → ((t && all_ascii_digits bs) ≡ true) × (folded (k * 10 + (b - 48)) bs ≡ n)
    go true h rest = rest h
    go false h rest = absurd (cc)

or_left : (x y : Bool) → (x || y) ≡ true → y ≡ false → x ≡ true
or_left true y e off = refl
or_left false y e off = absurd (cc)

-- a decimal text has one digit, or doesn't begin with a 0
no_leading_zero : (n : ℕ) → n < 2 ^ 64 → (length (decimal n) == 1 || not (get_or (decimal n) 0 0 == 48)) ≡ true
no_leading_zero n small = elim (cases_lt n 10) [
  | inl one ↦ ap (λ t. length t == 1 || not (get_or t 0 0 == 48)) (decimal_digit n one)
  | inr more ↦
      let first : 48 < get_or (decimal n) 0 0 = first_decimal n (omega arith) small in
      or_right _ _ (ap not (ne_eqb (get_or (decimal n) 0 0) 48 (λ e. omega arith)))
]

has_number_form-decimal : (n : ℕ) → n < 1000000000 → has_number_form (decimal n) ≡ true
has_number_form-decimal n small =
    let t = decimal n in
    let some = lt-ltb 0 (length t) (decimal_nonempty n (omega arith)) in
    let few = le-leb (length t) 9 (length-decimal-le 9 n (omega arith) (omega arith) (omega arith)) in
    and_from _ _ (and_from _ _ some few) (no_leading_zero n (omega arith))

-- the number's own text is read
pub number_of-decimal : (n : ℕ) → n < 1000000000 → number_of (decimal n) ≡ Some n
unfolding number_of
number_of-decimal n small =
    ap (λ b. cond b (number_from 0 (decimal n)) None) (has_number_form-decimal n small)
    ∙ number_from_some 0 (decimal n) (digits_decimal numeral n (omega arith)) ∙ ap (λ m. Some m) (digits_value-decimal numeral n (omega arith))

pub number_of_complete : (text : List ℕ) (n : ℕ) → IsNumber text n → number_of text ≡ Some n
number_of_complete text n is = ap number_of is.0 ∙ number_of-decimal n is.1

-- and no other text
pub number_of_sound : (text : List ℕ) (n : ℕ) → number_of text ≡ Some n → IsNumber text n
unfolding number_of
number_of_sound text n e = go (has_number_form text) refl e
  where
    go : (t : Bool) → has_number_form text ≡ t → cond t (number_from 0 text) None ≡ Some n → IsNumber text n
    go false form h = absurd (cc)
    go true form h =
        let (sized, lead) = and_parts _ _ form in
        let (some, few) = and_parts _ _ sized in
        let (digits, value) = number_from_only 0 n text h in
        let short : length text ≤ 9 = leb-true (length text) 9 few in
        let alone : get_or text 0 0 ≡ 48 → length text ≡ 1 = λ zero_first. eqb-true (length text) 1 (or_left _ _ lead (ap not (eq-eqb (get_or text 0 0) 48 zero_first))) in
        let bound : folded 0 text < 10 ^ 9 = digits_value_short numeral text 9 digits short in
        (sym (decimal-digits_value numeral text digits (ltb-true 0 (length text) some) alone (omega arith)) ∙ ap decimal value, omega (arith, value))

pub number_of_only : (text : List ℕ) (r : Option ℕ) → r ≡ number_of text → IfSome r (λ n. IsNumber text n)
number_of_only text None e = tt
number_of_only text (Some n) e = number_of_sound text n (sym e)

-- a number up to a top
pub number_to-decimal : (top n : ℕ) → n ≤ top → n < 1000000000 → number_to top (decimal n) ≡ Some n
unfolding number_to
number_to-decimal top n within small = ap (at_most top) (number_of-decimal n small) ∙ ap (λ b. cond b (Some n) None) (le-leb n top within)

pub number_to_complete : (top : ℕ) (text : List ℕ) (n : ℕ) → IsNumber text n → n ≤ top → number_to top text ≡ Some n
number_to_complete top text n is within = ap (number_to top) is.0 ∙ number_to-decimal top n within is.1

pub number_to_sound : (top : ℕ) (text : List ℕ) (n : ℕ) → number_to top text ≡ Some n → IsNumber text n × (n ≤ top)
unfolding number_to
number_to_sound top text n e = go (number_of text) refl e
  where
    chosen : (m : ℕ) (t : Bool) → leb m top ≡ t → cond t (Some m) None ≡ Some n → number_of text ≡ Some m → IsNumber text n × (n ≤ top)
    chosen m true low h is =
        let same : m ≡ n = cc in
        subst (λ (k : ℕ). IsNumber text k × (k ≤ top)) same (number_of_sound text m is, leb-true m top low)
    chosen m false low h is = absurd (cc)

    go : (r : Option ℕ) → number_of text ≡ r → at_most top r ≡ Some n → IsNumber text n × (n ≤ top)
    go None is h = absurd (cc)
    go (Some m) is h = chosen m (leb m top) refl h is

pub number_to_only : (top : ℕ) (text : List ℕ) (r : Option ℕ) → r ≡ number_to top text → IfSome r (λ n. IsNumber text n × (n ≤ top))
number_to_only top text None e = tt
number_to_only top text (Some n) e = number_to_sound top text n (sym e)

-- ---- The bytes of a number's text.

-- what is no digit doesn't stand among digits
pub digits-differ : (b : ℕ) → is_ascii_digit b ≡ false → (xs : List ℕ) → all_ascii_digits xs ≡ true → list_all (λ x. not (x == b)) xs ≡ true
digits-differ b off xs all = all-weaker is_ascii_digit (λ x. not (x == b)) xs (λ x is. ap not (ne_eqb x b (λ e. let on = subst (λ n. is_ascii_digit n ≡ true) e is in cc))) all

-- a number's text has digits alone
pub decimal-differs : (b n : ℕ) → is_ascii_digit b ≡ false → n < 2 ^ 64 → list_all (λ x. not (x == b)) (decimal n) ≡ true
decimal-differs b n off small = digits-differ b off (decimal n) (digits_decimal numeral n small)
