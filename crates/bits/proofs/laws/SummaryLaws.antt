-- Summaries of words: the first place that is marked, which bits the words have, and what a change of the words leaves of that.
use lib.Count.{count_trailing_zeros}
use Rattle.std.proofs.Common.{◌≡◌, ◌≢◌, ◌↔◌, inl, inr, ℕ, ◌+◌, ◌-◌, ◌*◌, ◌/◌, ◌%◌, ◌^◌, ◌<◌, ◌≤◌, max, sym, ◌∙◌, ap, arith, subst, Some, None, Bool, true, false, List, [], ◌∷◌, ◌++◌, length, take, get_or, refl, map, replicate}
use Rattle.std.specs.Prelude.{bit_and, bit_or, cond}
use Rattle.std.specs.Int.{bit_at, w64}
use Rattle.std.proofs.lemmas.Nat.{shr-shr, pow_pos}
use Rattle.std.proofs.lemmas.Nat.Bits.{bit_at-zero, bit_at-trailing_zeros, bit_at_cat_low, bit_at_cat_high, ones_shl, and_high_mask, bit_at_set_same, bit_at_set_other}
use Rattle.std.proofs.lemmas.Bool.{cases_lt, cases_eq, true≢false}
use Rattle.std.proofs.Math.ListN.{set}
use Rattle.std.proofs.lemmas.List.{get_or-take, get_or_append_left, get_or-append_right, get_or_past, length-take, get_or-set_same, get_or-set_other, get_or_read, length-set, length-append, length-take-le}
use Rattle.std.proofs.lemmas.List.Elements.{All-get_or}
use Rattle.bits.specs.steps.Summaries.{Nowhere, IsFirst, FromOn, HasPair, IsMarked, IsSummaryOf, SumUp, AreSummaries}
use Rattle.bits.specs.steps.Packing.{all_bits}
use Rattle.bits.specs.Rows.{RowsAndRoom}
use Rattle.bits.specs.steps.Held.{words_in, bits_in, AreHeld, IsPadded, Writes}
use Rattle.bits.proofs.laws.HeldLaws.{all_zeros, cleared_row, IsDoubled, doubled_held, doubled_here, doubled_other, doubled_size, IsTakenOut, taken_held, taken_size, Widened}
use Rattle.bits.proofs.laws.RowsLaws.{shown_at, slot_below}
use Rattle.bits.proofs.laws.BitLaws.{all_bits-append}

-- ---- Words whose bits stand for places, and the first of these.

-- the bits of a word stand for the places from one on, as far as they are not before `from`: those at which P holds
abbrev pub MarksPlaces : (ℕ → Type 0) → ℕ → ℕ → ℕ → Type 0
MarksPlaces P from base word = (i : ℕ) → i < 64 → (bit_at word i ≡ 1) ↔ ((from ≤ base + i) × P (base + i))

not_one : (a : ℕ) → a ≡ 0 → a ≡ 1 → ⊥
not_one a z o = absurd (omega arith)

pub word_found : (P : ℕ → Type 0) (from to base word : ℕ) → MarksPlaces P from base word → word ≢ 0 → word < 2 ^ 64 → Nowhere P from base → base + 64 ≤ to → IsFirst P from to (Some (base + count_trailing_zeros 64 word))
word_found P from to base word marks ne fits before room =
    let n : ℕ = count_trailing_zeros 64 word in
    let positive : 0 < word = omega arith in
    let t = bit_at-trailing_zeros w64 word positive fits in
    let here = (marks n t.0).0 t.1 in (
      here.0,
      (let in' : n < 64 = t.0 in omega arith),
      here.1,
      λ k ge below p.
          elim (cases_lt k base) [
            | inl lt ↦ before k ge lt p
            | inr le ↦ (
                let e : base + (k - base) ≡ k = omega arith in
                let in' : n < 64 = t.0 in
                let small : k - base < n = omega arith in
                let i64 : k - base < 64 = omega arith in
                let Q : ℕ → Type 0 = λ j. (from ≤ j) × P j in
                not_one (bit_at word (k - base)) (t.2 (k - base) small) ((marks (k - base) i64).1 (subst Q (sym e) (ge, p))))
          ],
    )

pub word_empty : (P : ℕ → Type 0) (from base word next : ℕ) → MarksPlaces P from base word → word ≡ 0 → Nowhere P from base → next ≡ base + 64 → Nowhere P from next
word_empty P from base word next marks z before is k ge below p =
    elim (cases_lt k base) [
      | inl lt ↦ before k ge lt p
      | inr le ↦ (
          let e : base + (k - base) ≡ k = omega arith in
          let i64 : k - base < 64 = omega arith in
          let Q : ℕ → Type 0 = λ j. (from ≤ j) × P j in
          not_one (bit_at word (k - base)) (ap (λ v. bit_at v (k - base)) z ∙ bit_at-zero (k - base)) ((marks (k - base) i64).1 (subst Q (sym e) (ge, p))))
    ]

-- the word of `from`, without the bits before it
head_is : (word r : ℕ) → r < 64 → word < 2 ^ 64 → bit_and word ((2 ^ 64 - 1) * 2 ^ r % 2 ^ 64) ≡ word / 2 ^ r * 2 ^ r
head_is word r lt fits =
    let le : r ≤ 64 = omega arith in
    ap (λ m. bit_and word m) (ones_shl 64 r le) ∙ and_high_mask 64 r le word fits

head_low : (a r i : ℕ) → i < r → bit_at (a * 2 ^ r) i ≡ 0
head_low a r i lt = let z : a * 2 ^ r + 0 ≡ a * 2 ^ r = omega arith in ap (λ v. bit_at v i) (sym z) ∙ bit_at_cat_low a r 0 i lt ∙ bit_at-zero i

head_high : (word r i : ℕ) → r ≤ i → bit_at (word / 2 ^ r * 2 ^ r) i ≡ bit_at word i
head_high word r i le =
    let z : word / 2 ^ r * 2 ^ r + 0 ≡ word / 2 ^ r * 2 ^ r = omega arith in
    let e : r + (i - r) ≡ i = omega arith in
    ap (λ v. bit_at v i) (sym z) ∙ bit_at_cat_high (word / 2 ^ r) r 0 i (pow_pos r) le ∙ ap (λ v. v % 2) (shr-shr word r (i - r) ∙ ap (λ k. word / 2 ^ k) e)

-- of a word that marks places, the bits from one on
pub masked_marks : (P : ℕ → Type 0) (from word : ℕ) → word < 2 ^ 64 → ((i : ℕ) → i < 64 → (bit_at word i ≡ 1) ↔ P (64 * (from / 64) + i)) → MarksPlaces P from (64 * (from / 64)) (bit_and word ((2 ^ 64 - 1) * 2 ^ (from % 64) % 2 ^ 64))
masked_marks P from word fits b i in' =
    let r64 : from % 64 < 64 = omega arith in
    let e = ap (λ v. bit_at v i) (head_is word (from % 64) r64 fits) in (
      λ one. elim (cases_lt i (from % 64)) [
        | inl low ↦ absurd (not_one (bit_at (word / 2 ^ (from % 64) * 2 ^ (from % 64)) i) (head_low (word / 2 ^ (from % 64)) (from % 64) i low) (sym e ∙ one))
        | inr high ↦ (omega arith, (b i in').0 (sym (head_high word (from % 64) i high) ∙ sym e ∙ one))
      ],
      λ both. (let high : from % 64 ≤ i = omega (arith, both.0) in e ∙ head_high word (from % 64) i high ∙ (b i in').1 both.1),
    )

-- a summary marks the pairs of 64, from one of them on
pub summary_marks : (summary start : ℕ) → summary < 2 ^ 64 → MarksPlaces (HasPair summary) start (64 * (start / 64)) (bit_and summary ((2 ^ 64 - 1) * 2 ^ (start % 64) % 2 ^ 64))
summary_marks summary start fits = masked_marks (HasPair summary) start summary fits (λ i in'.
    let e : (64 * (start / 64) + i) % 64 ≡ i = omega arith in
    let read = ap (λ k. bit_at summary k) e in
    (λ one. read ∙ one, λ on. sym read ∙ on))

-- the whole summary marks the pairs of the next 64
pub whole_marks : (summary start : ℕ) → MarksPlaces (HasPair summary) start (64 * (start / 64) + 64) summary
whole_marks summary start i in' =
    let e : (64 * (start / 64) + 64 + i) % 64 ≡ i = omega arith in
    let read = ap (λ k. bit_at summary k) e in
    (λ one. (omega arith, read ∙ one), λ on. sym read ∙ on.1)

-- what is first within a bound is first
pub from_on : (P : ℕ → Type 0) (from to n : ℕ) → IsFirst P from to (Some n) → FromOn P from (Some n)
from_on P from to n is = (is.0, is.2, is.3)

-- a word is marked where its pair is
pub pair_passed : (summary start pair less : ℕ) → less ≤ max start (2 * pair) → FromOn (HasPair summary) (start / 2) (Some pair) → Nowhere (IsMarked summary) start less
pair_passed summary start pair less le is k ge below p = is.2 (k / 2) (omega arith) (omega arith) p

pub pair_next : (summary start pair word : ℕ) → word ≡ max start (2 * pair) → FromOn (HasPair summary) (start / 2) (Some pair) → IsMarked summary word
pair_next summary start pair word same is = let e : word / 2 ≡ pair = omega (arith, same, is.0) in subst (HasPair summary) (sym e) is.1

pub pairs_gone : (summary start words : ℕ) → FromOn (HasPair summary) (start / 2) None → Nowhere (IsMarked summary) start words
pairs_gone summary start words none k ge below p = none (k / 2) (omega arith) p

-- ---- Summaries of words: which bits they have, and what a change of the words leaves of them.

-- ---- the bit of a word

pub mark_same : (summary word : ℕ) → IsMarked (bit_or summary (1 * 2 ^ (word / 2 % 64) % 2 ^ 64)) word
mark_same summary word = bit_at_set_same w64 summary (word / 2 % 64) (omega arith)

pub mark_other : (summary word k : ℕ) → IsMarked summary k → IsMarked (bit_or summary (1 * 2 ^ (word / 2 % 64) % 2 ^ 64)) k
mark_other summary word k h =
    elim (cases_eq (k / 2 % 64) (word / 2 % 64)) [
      | inl e ↦ (let P : ℕ → Type 0 = λ i. bit_at (bit_or summary (1 * 2 ^ (word / 2 % 64) % 2 ^ 64)) i ≡ 1 in subst P (sym e) (mark_same summary word))
      | inr ne ↦ bit_at_set_other w64 summary (word / 2 % 64) (omega arith) (k / 2 % 64) ne ∙ h
    ]

-- ---- a summary of words

-- of the front of a row
pub front_sums_up : (summary n : ℕ) (bits : List Bool) → IsSummaryOf summary bits → IsSummaryOf summary (take n bits)
front_sums_up summary n bits h p on =
    elim (cases_lt p n) [
      | inl lt ↦ h p (sym (get_or-take n bits p false lt) ∙ on)
      | inr ge ↦ absurd (true≢false (sym on ∙ past n bits p ge))
    ]
  where
    past : (n : ℕ) (bits : List Bool) (p : ℕ) → n ≤ p → get_or (take n bits) p false ≡ false
    past n bits p le = get_or_past (take n bits) p false (omega (arith, length-take n bits))

-- a bit of a row written
bit_sums_up : (summary after at : ℕ) (b : Bool) (bits new : List Bool) → new ≡ set bits at b → IsSummaryOf summary bits → ((k : ℕ) → IsMarked summary k → IsMarked after k) → (b ≡ true → IsMarked after (at / 64)) → IsSummaryOf after new
bit_sums_up summary after at b bits new is h kept more p on =
    let on' : get_or (set bits at b) p false ≡ true = sym (ap (λ (bs : List Bool). get_or bs p false) is) ∙ on in
    elim (cases_eq p at) [
      | inl e ↦ elim (cases_lt at (length bits)) [
        | inl in' ↦ (
            let P : ℕ → Type 0 = λ k. IsMarked after (k / 64) in
            subst P (sym e) (more (sym (get_or-set_same bits at b false in') ∙ sym (ap (λ k. get_or (set bits at b) k false) e) ∙ on')))
        | inr past ↦ absurd (true≢false (sym on' ∙ get_or_past (set bits at b) p false (omega (arith, e, past, length-set bits at b))))
      ]
      | inr ne ↦ kept (p / 64) (h p (sym (get_or-set_other bits at p b false ne) ∙ on'))
    ]

-- a word of 0 has no bit
off : (n p : ℕ) → get_or (all_bits (replicate n 0)) p false ≡ false
off n p =
    elim (cases_lt p (length (all_bits (replicate n 0)))) [
      | inl lt ↦ All-get_or (λ (b : Bool). b ≡ false) (all_bits (replicate n 0)) p false lt (all_zeros n)
      | inr ge ↦ get_or_past (all_bits (replicate n 0)) p false ge
    ]

-- words of 0 after a row
pub zeros_sum_up : (summary n : ℕ) (row : List ℕ) → IsSummaryOf summary (all_bits row) → IsSummaryOf summary (all_bits (row ++ replicate n 0))
zeros_sum_up summary n row h p on =
    let bits : List Bool = all_bits row in
    let rest : List Bool = all_bits (replicate n 0) in
    let on' : get_or (bits ++ rest) p false ≡ true = sym (ap (λ (bs : List Bool). get_or bs p false) (all_bits-append row (replicate n 0))) ∙ on in
    elim (cases_lt p (length bits)) [
      | inl lt ↦ h p (sym (get_or_append_left bits rest false p lt) ∙ on')
      | inr ge ↦ absurd (true≢false (sym on' ∙ get_or-append_right bits rest (length bits) p false refl ge ∙ off n (p - length bits)))
    ]

-- ---- the summaries of slots

pub summed_at : (w m n i v : ℕ) (now new ss : List ℕ) → i < length ss → SumUp w ss now m → ((t : ℕ) → t < n → t ≢ i → (t < m) × (words_in w new t ≡ words_in w now t)) → IsSummaryOf v (all_bits (words_in w new i))
    → SumUp w (set ss i v) new n
summed_at w m n i v now new ss in' h others here t lt =
    let P : ℕ → Type 0 = λ s. IsSummaryOf s (all_bits (words_in w new t)) in
    elim (cases_eq t i) [
      | inl e ↦ (
          let Q : ℕ → Type 0 = λ x. IsSummaryOf (get_or (set ss i v) x 0) (all_bits (words_in w new x)) in
          let R : ℕ → Type 0 = λ s. IsSummaryOf s (all_bits (words_in w new i)) in
          subst Q (sym e) (subst R (sym (get_or-set_same ss i v 0 in')) here))
      | inr ne ↦ (
          let o = others t lt ne in
          let S : List ℕ → Type 0 = λ row. IsSummaryOf (get_or ss t 0) (all_bits row) in
          subst P (sym (get_or-set_other ss i t v 0 ne)) (subst S (sym o.1) (h t o.0)))
    ]

-- a bit written in the words of a slot
pub word_summed : (w n s at x y : ℕ) (b : Bool) (ws us ss : List ℕ) → length ss ≡ n → s < n → SumUp w ss ws n → Writes at b (words_in w ws s) (words_in w us s) → ((t : ℕ) → t < n → t ≢ s → words_in w us t ≡ words_in w ws t)
    → y ≡ get_or ss s y → ((k : ℕ) → IsMarked y k → IsMarked x k) → (b ≡ true → IsMarked x (at / 64)) → SumUp w (set ss s x) us n
word_summed w n s at x y b ws us ss count lt h here others was kept more =
    let P : ℕ → Type 0 = λ z. IsSummaryOf z (all_bits (words_in w ws s)) in
    let before : IsSummaryOf y (all_bits (words_in w ws s)) = subst P (sym (get_or_read ss s y (omega arith) was 0)) (h s lt) in
    summed_at w n n s x ws us ss (omega arith) h (λ t lt' ne. (lt', others t lt' ne)) (bit_sums_up y x at b (all_bits (words_in w ws s)) (all_bits (words_in w us s)) here before kept more)

-- ---- the summaries of rows as they are held

pub doubled_summed : (len w : ℕ) (slots ws : List ℕ) (k s : ℕ) (slots' ws' ss : List ℕ) (x : ℕ) → IsDoubled len w slots ws k s slots' ws' → AreSummaries w ss ws (length slots) → x ≡ get_or ss s x → s < length slots → length slots' ≡ length slots + 1
    → AreSummaries w (ss ++ x ∷ []) ws' (length slots')
doubled_summed len w slots ws k s slots' ws' ss x h sum is lt n =
    let last : length ss ≡ length slots = sum.counted in
    let here : x ≡ get_or ss s 0 = get_or_read ss s x (omega arith) is 0 in
    record {
      counted = length-append ss (x ∷ []) ∙ omega (arith, n, last);
      each = λ t lt'. elim (cases_lt t (length slots)) [
        | inl old ↦ (
            let P : ℕ → Type 0 = λ y. IsSummaryOf y (all_bits (words_in w ws' t)) in
            let Q : List ℕ → Type 0 = λ row. IsSummaryOf (get_or ss t 0) (all_bits row) in
            subst P (sym (get_or_append_left ss (x ∷ []) 0 t (omega arith))) (subst Q (sym (doubled_other len w slots ws k s slots' ws' h t old)) (sum.each t old)))
        | inr new ↦ (
            let e : t ≡ length slots = omega (arith, new, lt', n) in
            let z : t - length ss ≡ 0 = omega (arith, e, last) in
            let read : get_or (ss ++ x ∷ []) t 0 ≡ x = get_or-append_right ss (x ∷ []) (length ss) t 0 refl (omega (arith, e, last)) ∙ ap (λ i. get_or (x ∷ []) i 0) z in
            let P : ℕ → Type 0 = λ y. IsSummaryOf y (all_bits (words_in w ws' t)) in
            let Q : ℕ → Type 0 = λ j. IsSummaryOf x (all_bits (words_in w ws' j)) in
            let R : List ℕ → Type 0 = λ row. IsSummaryOf x (all_bits row) in
            let S : ℕ → Type 0 = λ y. IsSummaryOf y (all_bits (words_in w ws s)) in
            subst P (sym read) (subst Q (sym e) (subst R (sym (doubled_here len w slots ws k s slots' ws' h)) (subst S (sym here) (sum.each s lt)))))
      ];
    }

pub doubled_both : (len w : ℕ) (slots ws : List ℕ) (k s : ℕ) (slots' ws' ss : List ℕ) (x : ℕ) → IsDoubled len w slots ws k s slots' ws' → AreSummaries w ss ws (length slots) → x ≡ get_or ss s x
    → (ss' : List ℕ) → ss' ≡ ss ++ x ∷ [] → AreHeld len w slots' ws' × AreSummaries w ss' ws' (length slots')
doubled_both len w slots ws k s slots' ws' ss x h sum is ss' made =
    let P : List ℕ → Type 0 = λ vs. AreSummaries w vs ws' (length slots') in (
      doubled_held len w slots ws k s slots' ws' h,
      subst P (sym made) (doubled_summed len w slots ws k s slots' ws' ss x h sum is (slot_below len w slots ws k s h.held h.row h.slot) (doubled_size len w slots ws k s slots' ws' h)),
    )

-- what a vector with room for one more has after it
pub pushed : (new now old : List ℕ) (x : ℕ) (b : Bool) → now ≡ old → new ≡ cond b (now ++ x ∷ []) now → b ≡ true → new ≡ old ++ x ∷ []
pushed new now old x b same e t = e ∙ ap (λ (c : Bool). cond c (now ++ x ∷ []) now) t ∙ ap (λ (ss : List ℕ). ss ++ x ∷ []) same

pub taken_summed : (len w : ℕ) (slots ws : List ℕ) (k s last : ℕ) (slots' ws' ss : List ℕ) (x : ℕ) → IsTakenOut len w slots ws k s last slots' ws' → AreSummaries w ss ws (length slots) → x ≡ get_or ss last x → s < length slots → length slots' ≡ last
    → AreSummaries w (take last (set ss s x)) ws' (length slots')
taken_summed len w slots ws k s last slots' ws' ss x h sum is below n =
    let count : length ss ≡ last + 1 = sum.counted ∙ h.count in
    let size : length (set ss s x) ≡ last + 1 = length-set ss s x ∙ count in
    let here : x ≡ get_or ss last 0 = get_or_read ss last x (omega arith) is 0 in
    record {
      counted = length-take-le last (set ss s x) (omega arith) ∙ sym n;
      each = λ t lt. (
          let in' : t < last = omega (arith, lt, n) in
          let P : ℕ → Type 0 = λ y. IsSummaryOf y (all_bits (words_in w ws' t)) in
          subst P (sym (get_or-take last (set ss s x) t 0 in'))
          (elim (cases_eq t s) [
            | inl e ↦ (
                let Q : ℕ → Type 0 = λ j. IsSummaryOf (get_or (set ss s x) j 0) (all_bits (words_in w ws' j)) in
                let R : ℕ → Type 0 = λ y. IsSummaryOf y (all_bits (words_in w ws' s)) in
                let S : List ℕ → Type 0 = λ row. IsSummaryOf x (all_bits row) in
                let T : ℕ → Type 0 = λ y. IsSummaryOf y (all_bits (words_in w ws last)) in
                subst Q (sym e) (subst R (sym (get_or-set_same ss s x 0 (omega (arith, below, sum.counted))))
                (subst S (sym (h.here (omega (arith, e, in')))) (subst T (sym here) (sum.each last (omega (arith, h.count)))))))
            | inr ne ↦ (
                let S : List ℕ → Type 0 = λ row. IsSummaryOf (get_or ss t 0) (all_bits row) in
                subst P (sym (get_or-set_other ss s t x 0 ne)) (subst S (sym (h.others t in' ne)) (sum.each t (omega (arith, in', h.count)))))
          ]));
    }

pub taken_both : (len w : ℕ) (slots ws : List ℕ) (k s last : ℕ) (slots' ws' ss : List ℕ) (x : ℕ) → IsTakenOut len w slots ws k s last slots' ws' → AreSummaries w ss ws (length slots) → x ≡ get_or ss last x
    → (ss' : List ℕ) → ss' ≡ take last (set ss s x) → AreHeld len w slots' ws' × AreSummaries w ss' ws' (length slots')
taken_both len w slots ws k s last slots' ws' ss x h sum is ss' made =
    let P : List ℕ → Type 0 = λ vs. AreSummaries w vs ws' (length slots') in (
      taken_held len w slots ws k s last slots' ws' h,
      subst P (sym made) (taken_summed len w slots ws k s last slots' ws' ss x h sum is (slot_below len w slots ws k s h.held h.row h.slot) (taken_size len w slots ws k s last slots' ws' h)),
    )

pub widened_summed : (w v count : ℕ) (ws us ss : List ℕ) → Widened w v ws us count → AreSummaries w ss ws count → AreSummaries v ss us count
widened_summed w v count ws us ss h sum = record {
  counted = sum.counted;
  each = λ t lt.
      let P : List ℕ → Type 0 = λ row. IsSummaryOf (get_or ss t 0) (all_bits row) in
      subst P (sym (h.rows t lt)) (zeros_sum_up (get_or ss t 0) (v - w) (words_in w ws t) (sum.each t lt));
}

pub cleared_summed : (w : ℕ) → AreSummaries w (0 ∷ 0 ∷ []) (replicate (2 * w) 0) 2
cleared_summed w = record {
  counted = refl;
  each = λ slot lt. (
      let P : List ℕ → Type 0 = λ row. IsSummaryOf (get_or (0 ∷ 0 ∷ []) slot 0) (all_bits row) in
      subst P (sym (cleared_row w 2 slot lt)) (λ p on. absurd (true≢false (sym on ∙ off w p))));
}

-- one row without a bit, in a slot of blank words
pub first_kept : (w n : ℕ) (slots ws ss : List ℕ) → w ≡ 4 → n ≡ 1 → slots ≡ 0 ∷ [] → ws ≡ replicate 4 0 → ss ≡ 0 ∷ [] → AreHeld 0 w slots ws × AreSummaries w ss ws (length slots) × (n ≡ length slots)
first_kept w n slots ws ss wide one first blank none =
    let row : (slot : ℕ) → slot < 1 → words_in 4 (replicate 4 0) slot ≡ replicate 4 0 = cleared_row 4 1 in
    let held : AreHeld 0 4 (0 ∷ []) (replicate 4 0) = record {
      covers = omega arith;
      few = omega arith;
      counted = omega arith;
      wide = refl;
      below = (omega arith, tt);
      apart = (tt, tt);
      padded = λ slot lt. (let P : List ℕ → Type 0 = λ row. IsPadded row 0 in subst P (sym (row slot lt)) (all_zeros 4));
    } in
    let sum : AreSummaries 4 (0 ∷ []) (replicate 4 0) 1 = record {
      counted = refl;
      each = λ slot lt. (
          let P : List ℕ → Type 0 = λ row. IsSummaryOf (get_or (0 ∷ []) slot 0) (all_bits row) in
          subst P (sym (row slot lt)) (λ p on. absurd (true≢false (sym on ∙ off 4 p))));
    } in
    let P : List ℕ → Type 0 = λ sums. AreHeld 0 w slots ws × AreSummaries w sums ws (length slots) in
    let Q : List ℕ → Type 0 = λ vs. AreHeld 0 w slots vs × AreSummaries w (0 ∷ []) vs (length slots) in
    let R : List ℕ → Type 0 = λ at. AreHeld 0 w at (replicate 4 0) × AreSummaries w (0 ∷ []) (replicate 4 0) (length at) in
    let S : ℕ → Type 0 = λ v. AreHeld 0 v (0 ∷ []) (replicate 4 0) × AreSummaries v (0 ∷ []) (replicate 4 0) 1 in
    let both = subst P (sym none) (subst Q (sym blank) (subst R (sym first) (subst S (sym wide) (held, sum)))) in
    (both.0, both.1, one ∙ sym (ap (λ (at : List ℕ). length at) first))

-- a row's summary, as the row is shown
pub shown_summed : (len w : ℕ) (slots ws : List ℕ) (shown : RowsAndRoom) (k s x : ℕ) (ss : List ℕ) → AreHeld len w slots ws → record { rows = map (bits_in len w ws) slots; room = 64 * w - len } ≡ shown → AreSummaries w ss ws (length slots) → k < length slots → s ≡ get_or slots k s
    → x ≡ get_or ss s x → IsSummaryOf x (get_or shown.rows k [])
shown_summed len w slots ws shown k s x ss h is sum lt slot read =
    let below : s < length slots = slot_below len w slots ws k s h lt slot in
    let here : x ≡ get_or ss s 0 = get_or_read ss s x (omega (arith, below, sum.counted)) read 0 in
    let P : ℕ → Type 0 = λ y. IsSummaryOf y (all_bits (words_in w ws s)) in
    let Q : List Bool → Type 0 = λ row. IsSummaryOf x row in
    subst Q (sym (shown_at len w slots ws k s [] lt slot) ∙ ap (λ (r : RowsAndRoom). get_or r.rows k []) is) (front_sums_up x len (all_bits (words_in w ws s)) (subst P (sym here) (sum.each s below)))

-- a summary for each slot still, after each was made anew
pub summed_again : (width n : ℕ) (summaries words summaries' words' : List ℕ) → AreSummaries width summaries words n → length summaries' ≡ length summaries → SumUp width summaries' words' (length summaries) → AreSummaries width summaries' words' n
summed_again width n summaries words summaries' words' h same each = record { counted = same ∙ h.counted; each = λ slot lt. each slot (omega (arith, lt, h.counted)) }
