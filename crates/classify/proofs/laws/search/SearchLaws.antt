-- The search for the first place that every row has, each row lent with the words that turn it.
use lib.Lanes.{zip2, chunk, fold_l}
use Rattle.std.proofs.Common.{◌≡◌, ◌↔◌, ℕ, zero, suc, ◌+◌, ◌-◌, ◌*◌, ◌<◌, ◌≤◌, Bool, true, false, List, [], ◌∷◌, length, drop, not, take, get_or, refl, sym, ◌∙◌, ap, ap₂, arith, inl, inr, ◌/◌, ◌^◌, subst, min, All, Option, Some, None}
use Rattle.std.specs.Prelude.{nat_eq, ◌%◌, bit_and, bit_or, bit_xor, replicate}
use Rattle.std.specs.Int.{bit_at}
use Rattle.std.proofs.lemmas.Bool.{eqb-true, eq-eqb, cases_lt}
use Rattle.std.proofs.lemmas.List.{get_or-drop, length-drop, length-take-le, get_or-take}
use Rattle.std.proofs.lemmas.List.Elements.{All-get_or, All-nil, All-more, All-take}
use Rattle.std.proofs.lemmas.Nat.Bits.{bit_at-lt, bit_at_xor, bit_at_and, bit_at_ones, bit_at-zero}
use Rattle.std.proofs.lemmas.Nat.{le_or_l, le_or_r}
use Rattle.std.proofs.lemmas.Simd.{length-zip2, get_or-zip2, length-chunk, get_or-chunk, length-replicate, get_or-replicate}
use mathlib.Core.Bool.{beq, xor}
use Rattle.bits.specs.TurnedRows.{turned}
use Rattle.bits.specs.declared.turned_rows.TurnedWords.{TurnedWords}
use Rattle.bits.specs.steps.Packing.{all_bits, IsPacked}
use Rattle.bits.proofs.laws.BitLaws.{all_bit_at, length-all_bits}
use Rattle.bits.specs.steps.StoredRows.{words_of}
use Rattle.bits.specs.steps.Summaries.{Nowhere, IsFirst, IsMarked}
use Rattle.bits.proofs.laws.SummaryLaws.{MarksPlaces, word_empty, masked_marks}
use Rattle.classify.specs.steps.CommonPlaces.{ArePacked, IsWide, bits_of, word_at, IsAndAt, AreAndsAt, AreWide, HaveAll, SumUpAll}

-- ---- Rows lent with the words that turn them: their bits, and the bits of their words.

length-turned : (turn own : List Bool) → length (turned turn own) ≡ length own
length-turned turn [] = refl
length-turned [] (b ∷ own) = ap suc (length-turned [] own)
length-turned (t ∷ turn) (b ∷ own) = ap suc (length-turned turn own)

turned_bit : (turn own : List Bool) (p : ℕ) → p < length own → length turn ≡ length own → get_or (turned turn own) p false ≡ xor (get_or turn p false) (get_or own p false)
turned_bit turn [] p lt n = absurd (omega arith)
turned_bit [] (b ∷ own) p lt n = absurd (omega arith)
turned_bit (t ∷ turn) (b ∷ own) zero lt n = refl
turned_bit (t ∷ turn) (b ∷ own) (suc p) lt n = turned_bit turn own p (omega arith) (omega arith)

-- ---- the bits of a row

pub length-bits_of : (row : TurnedWords) → length (bits_of row) ≡ 64 * length (words_of row.own)
length-bits_of row = length-turned (all_bits (words_of row.turn)) (all_bits (words_of row.own)) ∙ length-all_bits (words_of row.own)

-- each is that of its own words, turned
pub row_bit : (row : TurnedWords) (words p : ℕ) → IsWide words row → p < 64 * words → get_or (bits_of row) p false ≡ xor (get_or (all_bits (words_of row.turn)) p false) (get_or (all_bits (words_of row.own)) p false)
row_bit row words p wide lt =
    let own = length-all_bits (words_of row.own) in
    let turn = length-all_bits (words_of row.turn) in
    turned_bit (all_bits (words_of row.turn)) (all_bits (words_of row.own)) p (omega (arith, wide.0)) (omega (arith, wide.0, wide.1))

-- where the bits that turn and are turned differ
pub turned_differ : (row : TurnedWords) (words p : ℕ) (turn own : Bool) → IsWide words row → p < 64 * words → turn ≡ get_or (all_bits (words_of row.turn)) p false → own ≡ get_or (all_bits (words_of row.own)) p false
    → not (beq turn own) ≡ get_or (bits_of row) p false
unfolding xor
turned_differ row words p turn own wide lt t o = ap₂ xor t o ∙ sym (row_bit row words p wide lt)

-- ---- the bits of a word

-- a sum without its carry
sum_is_xor : (a b : ℕ) → a < 2 → b < 2 → nat_eq ((b + a) % 2) 1 ≡ xor (nat_eq a 1) (nat_eq b 1)
unfolding xor
sum_is_xor zero zero la lb = refl
sum_is_xor zero (suc zero) la lb = refl
sum_is_xor (suc zero) zero la lb = refl
sum_is_xor (suc zero) (suc zero) la lb = refl
sum_is_xor (suc (suc a)) b la lb = absurd (omega arith)
sum_is_xor a (suc (suc b)) la lb = absurd (omega arith)

pub row_has : (row : TurnedWords) (place i words : ℕ) → IsWide words row → place < words → i < 64 → (bit_at (word_at row place) i ≡ 1) ↔ (get_or (bits_of row) (64 * place + i) false ≡ true)
row_has row place i words wide lt in' =
    let own : ℕ = get_or (words_of row.own) place 0 in
    let turn : ℕ = get_or (words_of row.turn) place 0 in
    let bits : get_or (bits_of row) (64 * place + i) false ≡ xor (nat_eq (bit_at turn i) 1) (nat_eq (bit_at own i) 1) =
    row_bit row words (64 * place + i) wide (omega arith) ∙ ap₂ xor (all_bit_at (words_of row.turn) place i in') (all_bit_at (words_of row.own) place i in') in
    let e : get_or (bits_of row) (64 * place + i) false ≡ nat_eq (bit_at (word_at row place) i) 1 =
    bits ∙ sym (sum_is_xor (bit_at turn i) (bit_at own i) (bit_at-lt turn i) (bit_at-lt own i)) ∙ sym (ap (λ n. nat_eq n 1) (bit_at_xor own turn i)) in
    (λ one. e ∙ eq-eqb (bit_at (word_at row place) i) 1 one, λ on. eqb-true (bit_at (word_at row place) i) 1 (sym e ∙ on))

-- ---- rows of so many bits

-- a row has as many words as its bits need, and as many that turn them
pub row_wide : (row : TurnedWords) (len words : ℕ) → ArePacked len row → len ≤ 64 * words → 64 * words < len + 64 → IsWide words row
row_wide row len words h covers tight = (omega (arith, h.own.covers, h.own.tight), omega (arith, h.turn.covers, h.turn.tight))

pub own_wide : (row : TurnedWords) (len : ℕ) → ArePacked len row → IsWide (length (words_of row.own)) row
own_wide row len h = row_wide row len (length (words_of row.own)) h h.own.covers h.own.tight

pub packed_long : (row : TurnedWords) (len : ℕ) → ArePacked len row → length (take len (bits_of row)) ≡ len
packed_long row len h = length-take-le len (bits_of row) (omega (arith, h.own.covers, length-bits_of row))

blank_past : (words : List ℕ) (len p : ℕ) → IsPacked words len → len ≤ p → p < 64 * length words → get_or (all_bits words) p false ≡ false
blank_past words len p h le lt =
    let size : length (all_bits words) ≡ 64 * length words = length-all_bits words in
    let k : p - len < length (drop len (all_bits words)) = omega (arith, length-drop len (all_bits words)) in
    let e : len + (p - len) ≡ p = omega arith in
    sym (ap (λ j. get_or (all_bits words) j false) e) ∙ sym (get_or-drop len (all_bits words) (p - len) false) ∙ All-get_or (λ (b : Bool). b ≡ false) (drop len (all_bits words)) (p - len) false k h.padded

none_is : xor false false ≡ false
unfolding xor
none_is = refl

-- no row has a bit past those
pub none_past : (row : TurnedWords) (len p : ℕ) → ArePacked len row → len ≤ p → p < 64 * length (words_of row.own) → get_or (bits_of row) p false ≡ false
none_past row len p h le lt =
    let wide = own_wide row len h in
    row_bit row (length (words_of row.own)) p wide lt ∙ ap₂ xor (blank_past (words_of row.turn) len p h.turn le (omega (arith, wide.1))) (blank_past (words_of row.own) len p h.own le lt) ∙ none_is

-- ---- The search for the first place that every row has.

-- ---- the and of the rows so far

pub and_first : (place : ℕ) → IsAndAt (2 ^ 64 - 1) [] place
and_first place = record { each = λ i lt. (λ _. All-nil (λ (row : TurnedWords). bit_at (word_at row place) i ≡ 1), λ _. bit_at_ones 64 i lt) }

-- where the less of two bits is 1, both are
pub both_bits : (a b : ℕ) → a < 2 → b < 2 → min a b ≡ 1 → (a ≡ 1) × (b ≡ 1)
both_bits a b la lb e = (omega arith, omega arith)

pub and_more : (rows : List TurnedWords) (k all place : ℕ) (d : TurnedWords) → k < length rows → IsAndAt all (take k rows) place → IsAndAt (bit_and all (word_at (get_or rows k d) place)) (take (k + 1) rows) place
and_more rows k all place d lt h =
    record {
      each = λ i in'.
          (let P : TurnedWords → Type 0 = λ row. bit_at (word_at row place) i ≡ 1 in
          let w : ℕ = word_at (get_or rows k d) place in
          let e : bit_at (bit_and all w) i ≡ min (bit_at all i) (bit_at w i) = bit_at_and all w i in (
            λ one. (let b = both_bits (bit_at all i) (bit_at w i) (bit_at-lt all i) (bit_at-lt w i) (sym e ∙ one) in All-more P rows k d lt ((h.each i in').0 b.0) b.1),
            λ every.
                (let past : k < k + 1 = omega arith in
                let long : length (take (k + 1) rows) ≡ k + 1 = length-take-le (k + 1) rows (omega arith) in
                let short : length (take k rows) ≡ k = length-take-le k rows (omega arith) in
                let last : P (get_or rows k d) = subst P (get_or-take (k + 1) rows k d past) (every k d (omega arith)) in
                let front : All P (take k rows) =
                λ j f below.
                (let j1 : j < k + 1 = omega arith in
                let j0 : j < k = omega arith in
                subst P (get_or-take (k + 1) rows j f j1 ∙ sym (get_or-take k rows j f j0)) (every j f (omega arith))) in
                let a : bit_at all i ≡ 1 = (h.each i in').1 front in
                e ∙ omega arith),
          ));
    }

-- what some of the rows lack all of them lack
pub and_none : (rows : List TurnedWords) (count place : ℕ) → IsAndAt 0 (take count rows) place → IsAndAt 0 rows place
and_none rows count place h =
    record {
      each = λ i lt. (
        λ one. absurd (omega (arith, bit_at-zero i, one)),
        λ every. (h.each i lt).1 (All-take (λ (row : TurnedWords). bit_at (word_at row place) i ≡ 1) count rows every),
      );
    }

-- ---- the bits of the and are the places that every row has

pub bits_mark : (rows : List TurnedWords) (words place word i : ℕ) → AreWide words rows → place < words → IsAndAt word rows place → i < 64 → (bit_at word i ≡ 1) ↔ HaveAll rows (64 * place + i)
bits_mark rows words place word i wide lt h in' = (
  λ one k d below. (row_has (get_or rows k d) place i words (wide k d below) lt in').0 ((h.each i in').0 one k d below),
  λ every. (h.each i in').1 (λ k d below. (row_has (get_or rows k d) place i words (wide k d below) lt in').1 (every k d below)),
)

-- ---- the first place that is later

pub first_later : (P : ℕ → Type 0) (from mid to : ℕ) (r : Option ℕ) → from ≤ mid → Nowhere P from mid → IsFirst P mid to r → IsFirst P from to r
first_later P from mid to None le before h =
    λ k ge below p. elim (cases_lt k mid) [ inl lt ↦ before k ge lt p | inr ge' ↦ h k ge' below p ]
first_later P from mid to (Some n) le before h =
    (omega (arith, h.0), h.1, h.2, λ k ge below p. elim (cases_lt k mid) [ inl lt ↦ before k ge lt p | inr ge' ↦ h.3 k ge' below p ])

-- ---- words of the rows

-- a whole word at or after `from`
pub whole_marks : (rows : List TurnedWords) (from words place word : ℕ) → AreWide words rows → place < words → IsAndAt word rows place → from ≤ 64 * place → MarksPlaces (HaveAll rows) from (64 * place) word
whole_marks rows from words place word wide lt h le i in' =
    let b = bits_mark rows words place word i wide lt h in' in
    (λ one. (omega arith, b.0 one), λ both. b.1 both.1)

-- ---- four words at once

pub four_first : (place : ℕ) → AreAndsAt (replicate 4 (2 ^ 64 - 1)) [] place
four_first place = record {
  long = length-replicate 4 (2 ^ 64 - 1);
  each = λ j lt. (let P : ℕ → Type 0 = λ v. IsAndAt v [] (place + j) in subst P (sym (get_or-replicate 4 j (2 ^ 64 - 1) 0 lt)) (and_first (place + j)));
}

-- four words of a row
abbrev four_of : ℕ → TurnedWords → List ℕ
four_of place row = zip2 bit_xor (chunk place 4 (words_of row.own)) (chunk place 4 (words_of row.turn))

four_long : (place words : ℕ) (row : TurnedWords) → IsWide words row → place + 4 ≤ words → length (four_of place row) ≡ 4
four_long place words row wide room =
    let own = length-chunk place 4 (words_of row.own) (omega (arith, wide.0)) in
    let turn = length-chunk place 4 (words_of row.turn) (omega (arith, wide.1)) in
    length-zip2 bit_xor (chunk place 4 (words_of row.own)) (chunk place 4 (words_of row.turn)) (own ∙ sym turn) ∙ own

four_at : (place words j : ℕ) (row : TurnedWords) → IsWide words row → place + 4 ≤ words → j < 4 → get_or (four_of place row) j 0 ≡ word_at row (place + j)
four_at place words j row wide room lt =
    let own = length-chunk place 4 (words_of row.own) (omega (arith, wide.0)) in
    let turn = length-chunk place 4 (words_of row.turn) (omega (arith, wide.1)) in
    get_or-zip2 bit_xor (chunk place 4 (words_of row.own)) (chunk place 4 (words_of row.turn)) j 0 0 0 (omega arith) (omega arith) ∙ ap₂ bit_xor (get_or-chunk place 4 (words_of row.own) j 0 lt) (get_or-chunk place 4 (words_of row.turn) j 0 lt)

pub four_more : (rows : List TurnedWords) (k words place : ℕ) (all : List ℕ) (d : TurnedWords) → k < length rows → AreWide words rows → place + 4 ≤ words → AreAndsAt all (take k rows) place
    → AreAndsAt (zip2 bit_and all (four_of place (get_or rows k d))) (take (k + 1) rows) place
four_more rows k words place all d lt wide room h =
    let row : TurnedWords = get_or rows k d in
    let four = four_long place words row (wide k d lt) room in
    record {
      long = length-zip2 bit_and all (four_of place row) (h.long ∙ sym four) ∙ h.long;
      each = λ j in'.
          (let a : j < length all = omega (arith, h.long) in
          let b : j < length (four_of place row) = omega arith in
          let e : get_or (zip2 bit_and all (four_of place row)) j 0 ≡ bit_and (get_or all j 0) (word_at row (place + j)) =
          get_or-zip2 bit_and all (four_of place row) j 0 0 0 a b ∙ ap (λ v. bit_and (get_or all j 0) v) (four_at place words j row (wide k d lt) room in') in
          let P : ℕ → Type 0 = λ v. IsAndAt v (take (k + 1) rows) (place + j) in
          subst P (sym e) (and_more rows k (get_or all j 0) (place + j) d lt (h.each j in')));
    }

zeros : (x : ℕ) (xs : List ℕ) → x ≡ 0 → ((j : ℕ) → get_or xs j 0 ≡ 0) → (j : ℕ) → get_or (x ∷ xs) j 0 ≡ 0
zeros x xs e h zero = e
zeros x xs e h (suc j) = h j

or_zero : (a : ℕ) (xs : List ℕ) → fold_l bit_or a xs ≡ 0 → (a ≡ 0) × ((j : ℕ) → get_or xs j 0 ≡ 0)
or_zero a [] e = (e, λ j. refl)
or_zero a (x ∷ xs) e =
    let r = or_zero (bit_or a x) xs e in
    (omega (arith, le_or_l a x, r.0), zeros x xs (omega (arith, le_or_r a x, r.0)) r.1)

four_empty : (rows : List TurnedWords) (from words place : ℕ) (lanes : List ℕ) → AreWide words rows → place + 4 ≤ words → AreAndsAt lanes rows place → ((j : ℕ) → get_or lanes j 0 ≡ 0) → from ≤ 64 * place
    → Nowhere (HaveAll rows) from (64 * place) → (j : ℕ) → j ≤ 4 → Nowhere (HaveAll rows) from (64 * (place + j))
four_empty rows from words place lanes wide room h z le before zero in' =
    let e : place ≡ place + 0 = omega arith in
    let P : ℕ → Type 0 = λ k. Nowhere (HaveAll rows) from (64 * k) in
    subst P e before
four_empty rows from words place lanes wide room h z le before (suc j) in' =
    word_empty (HaveAll rows) from (64 * (place + j)) (get_or lanes j 0) (64 * (place + suc j))
    (whole_marks rows from words (place + j) (get_or lanes j 0) wide (omega arith) (h.each j (omega arith)) (omega arith)) (z j)
    (four_empty rows from words place lanes wide room h z le before j (omega arith)) (omega arith)

four_passed : (rows : List TurnedWords) (from words place : ℕ) (lanes : List ℕ) → AreWide words rows → place + 4 ≤ words → AreAndsAt lanes rows place → fold_l bit_or 0 lanes ≡ 0 → from ≤ 64 * place
    → Nowhere (HaveAll rows) from (64 * place) → Nowhere (HaveAll rows) from (64 * (place + 4))
four_passed rows from words place lanes wide room h z le before = four_empty rows from words place lanes wide room h (or_zero 0 lanes z).1 le before 4 (omega arith)

-- what some of the rows lack all of them lack
pub part_passed : (rows : List TurnedWords) (count words place : ℕ) (lanes : List ℕ) → AreWide words rows → place + 4 ≤ words → AreAndsAt lanes (take count rows) place → fold_l bit_or 0 lanes ≡ 0
    → Nowhere (HaveAll rows) (64 * place) (64 * (place + 4))
part_passed rows count words place lanes wide room h z k ge below every =
    four_passed (take count rows) (64 * place) words place lanes (All-take (IsWide words) count rows wide) room h z (omega arith) (λ j low high p. absurd (omega arith)) k ge below
    (All-take (λ (row : TurnedWords). get_or (bits_of row) k false ≡ true) count rows every)

pub head_marks : (rows : List TurnedWords) (from words word : ℕ) → AreWide words rows → from / 64 < words → word < 2 ^ 64 → IsAndAt word rows (from / 64)
    → MarksPlaces (HaveAll rows) from (64 * (from / 64)) (bit_and word ((2 ^ 64 - 1) * 2 ^ (from % 64) % 2 ^ 64))
head_marks rows from words word wide lt fits h = masked_marks (HaveAll rows) from word fits (λ i in'. bits_mark rows words (from / 64) word i wide lt h in')

-- ---- summaries

pub nowhere_up_to : (P : ℕ → Type 0) (from to less : ℕ) → less ≤ to → Nowhere P from to → Nowhere P from less
nowhere_up_to P from to less le h k ge below p = h k ge (omega arith) p

-- no row has a place in words that their summary lacks
pub nowhere_marked : (rows : List TurnedWords) (summary words from to : ℕ) → to ≤ words → SumUpAll summary words rows → Nowhere (IsMarked summary) from to → Nowhere (HaveAll rows) (64 * from) (64 * to)
nowhere_marked rows summary words from to le sum h p ge below every = h (p / 64) (omega arith) (omega arith) (sum p (omega arith) every)

-- no row has a place in a word that their summary lacks
pub and_unmarked : (rows : List TurnedWords) (summary words place : ℕ) → AreWide words rows → place < words → SumUpAll summary words rows → (IsMarked summary place → ⊥) → IsAndAt 0 rows place
and_unmarked rows summary words place wide lt sum lacks =
    record {
      each = λ i in'. (
        λ one. absurd (omega (arith, bit_at-zero i, one)),
        λ every.
            (let here : (64 * place + i) / 64 ≡ place = omega arith in
            let P : ℕ → Type 0 = λ k. IsMarked summary k in
            absurd (lacks (subst P here (sum (64 * place + i) (omega arith) (λ k d below. (row_has (get_or rows k d) place i words (wide k d below) lt in').0 (every k d below)))))),
      );
    }
