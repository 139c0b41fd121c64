-- All words of a row moved by two: two without a bit come in before them, or the first two go.
use Rattle.std.proofs.Common.{◌≡◌, inl, inr, ℕ, zero, suc, ◌+◌, ◌-◌, ◌*◌, ◌/◌, ◌%◌, ◌^◌, ◌<◌, ◌≤◌, Bool, true, false, List, [], ◌∷◌, ◌++◌, length, take, drop, get_or, refl, sym, ◌∙◌, ap, arith, subst, map, replicate, append_assoc, append-nil}
use Rattle.std.specs.Prelude.{bit_or}
use Rattle.std.specs.Int.{bit_at, w64, rotate_left, rotate_right}
use Rattle.std.specs.List.{copy_within}
use Rattle.std.proofs.Math.ListN.{set}
use Rattle.std.proofs.Math.Seq.{take-append-add, drop-append-add}
use Rattle.std.proofs.lemmas.Bool.{cases_lt, true≢false}
use Rattle.std.proofs.lemmas.List.{drop_all, take_all, drop_more, set-append_right, take-append-le, drop-append-le, drop-drop, drop-take, length-replicate, length-drop, length-take-le, replicate-append-replicate, get_or-replicate, get_or_append_left, get_or-append_right, get_or_past}
use Rattle.std.proofs.lemmas.List.Elements.{All-append, All-replicate, All-same, All-take}
use Rattle.std.proofs.lemmas.Nat.Bits.{bit_at_or, bit_at-lt, bit_at-suc, bit_at_lowest, bit_at_cat_low, bit_at_cat_high}
use Rattle.bits.specs.Rows.{two_words}
use Rattle.bits.specs.steps.Packing.{word_bits, all_bits}
use Rattle.bits.specs.steps.Held.{words_in, bits_in, IsPadded, AreHeld, EachSlot, TakesWordsIn, GivesWordsUp}
use Rattle.bits.specs.steps.Summaries.{HasPair, IsSummaryOf}
use Rattle.bits.proofs.laws.BitLaws.{all_bits-append, all_bits-cut, length-all_bits}
use Rattle.bits.proofs.laws.RowsLaws.{length-words_in, covers_row}
use Rattle.bits.proofs.laws.SlotLaws.{all_mapped}

abbrev Off : Bool → Type 0
Off b = b ≡ false

-- ---- the words

raised : (ws : List ℕ) → 2 ≤ length ws → set (set (copy_within ws 0 (length ws - 2) 2) 0 0) 1 0 ≡ 0 ∷ 0 ∷ take (length ws - 2) ws
raised [] two = absurd (omega arith)
raised (x ∷ []) two = absurd (omega arith)
raised (x ∷ y ∷ zs) two =
    let ws : List ℕ = x ∷ y ∷ zs in
    let n : ℕ = length ws - 2 in
    let whole : n - 0 ≡ n = omega arith in
    ap (λ k. 0 ∷ 0 ∷ (take k ws ++ drop (2 + k) ws)) whole ∙ ap (λ (rest : List ℕ). 0 ∷ 0 ∷ (take n ws ++ rest)) (drop_all (2 + n) ws (omega arith)) ∙ ap (λ (row : List ℕ). 0 ∷ 0 ∷ row) (append-nil (take n ws))

lowered : (ws : List ℕ) (rest end : ℕ) → 2 ≤ length ws → rest ≡ length ws - 2 → end ≡ rest + 2 → set (set (copy_within ws 2 end 0) rest 0) (rest + 1) 0 ≡ drop 2 ws ++ 0 ∷ 0 ∷ []
lowered ws rest end two is last =
    let n : end - 2 ≡ rest = omega arith in
    let front : List ℕ = drop 2 ws in
    let long : length front ≡ rest = omega (arith, length-drop 2 ws) in
    let whole : take rest front ≡ front = take_all rest front (omega arith) in
    let p : ℕ = get_or ws rest 0 in
    let q : ℕ = get_or ws (rest + 1) 0 in
    let at : 0 + rest ≡ rest = omega arith in
    let next : rest + 1 + 1 ≡ rest + 2 = omega arith in
    let tail : drop rest ws ≡ p ∷ q ∷ [] =
    drop_more ws rest 0 (omega arith) ∙ ap (λ (vs : List ℕ). p ∷ vs) (drop_more ws (rest + 1) 0 (omega arith)) ∙ ap (λ (vs : List ℕ). p ∷ q ∷ vs) (drop_all (rest + 1 + 1) ws (omega arith)) in
    let pasted : copy_within ws 2 end 0 ≡ front ++ p ∷ q ∷ [] =
    ap (λ k. take k front ++ drop (0 + k) ws) n ∙ ap (λ k. take rest front ++ drop k ws) at ∙ (λ i. whole i ++ tail i) in
    let first : rest - rest ≡ 0 = omega arith in
    let second : rest + 1 - rest ≡ 1 = omega arith in
    ap (λ (vs : List ℕ). set (set vs rest 0) (rest + 1) 0) pasted
    ∙ ap (λ (vs : List ℕ). set vs (rest + 1) 0) (set-append_right front (p ∷ q ∷ []) rest rest 0 long (omega arith) ∙ ap (λ k. front ++ set (p ∷ q ∷ []) k 0) first)
    ∙ set-append_right front (0 ∷ q ∷ []) rest (rest + 1) 0 long (omega arith) ∙ ap (λ k. front ++ set (0 ∷ q ∷ []) k 0) second

-- ---- their bits

pub zero_word : (n : ℕ) → word_bits n 0 ≡ replicate n false
unfolding word_bits
zero_word zero = refl
zero_word (suc n) = ap (λ (bs : List Bool). false ∷ bs) (zero_word n)

pub blank_first : (bits : List Bool) → word_bits 64 0 ++ (word_bits 64 0 ++ bits) ≡ replicate two_words false ++ bits
blank_first bits =
    (λ i. zero_word 64 i ++ (zero_word 64 i ++ bits)) ∙ sym (append_assoc (replicate 64 false) (replicate 64 false) bits)
    ∙ ap (λ (bs : List Bool). bs ++ bits) (replicate-append-replicate 64 64 false)

pub taken_in : (ws us : List ℕ) → 2 ≤ length ws → us ≡ set (set (copy_within ws 0 (length ws - 2) 2) 0 0) 1 0 → TakesWordsIn ws us
taken_in ws us two is = ap all_bits (is ∙ raised ws two) ∙ blank_first (all_bits (take (length ws - 2) ws))

pub given_up : (ws us : List ℕ) (rest end : ℕ) → 2 ≤ length ws → rest ≡ length ws - 2 → end ≡ rest + 2 → us ≡ set (set (copy_within ws 2 end 0) rest 0) (rest + 1) 0 → GivesWordsUp ws us
given_up ws us rest end two at last is =
    ap all_bits (is ∙ lowered ws rest end two at last) ∙ all_bits-append (drop 2 ws) (0 ∷ 0 ∷ [])
    ∙ ap (λ (bs : List Bool). all_bits (drop 2 ws) ++ bs) (blank_first [] ∙ append-nil (replicate two_words false))

first_words : (ws : List ℕ) → 2 ≤ length ws → length (all_bits (take 2 ws)) ≡ two_words
first_words ws two = length-all_bits (take 2 ws) ∙ ap (λ k. 64 * k) (length-take-le 2 ws two)

-- ---- the summary

low_64 : (n i : ℕ) → i < 64 → bit_at (n % 2 ^ 64) i ≡ bit_at n i
low_64 n i lt =
    let e : n / 2 ^ 64 * 2 ^ 64 + n % 2 ^ 64 ≡ n = omega arith in
    sym (bit_at_cat_low (n / 2 ^ 64) 64 (n % 2 ^ 64) i lt) ∙ ap (λ v. bit_at v i) e

either : (a b i : ℕ) → (bit_at a i ≡ 1) → bit_at (bit_or a b) i ≡ 1
either a b i on = bit_at_or a b i ∙ omega (arith, on, bit_at-lt b i)

other : (a b i : ℕ) → (bit_at b i ≡ 1) → bit_at (bit_or a b) i ≡ 1
other a b i on = bit_at_or a b i ∙ omega (arith, on, bit_at-lt a i)

rotated_up : (s q : ℕ) → HasPair s q → HasPair (rotate_left w64 s 1) (q + 1)
rotated_up s q on =
    let low : ℕ = s * 2 ^ 1 % 2 ^ 64 in
    let high : ℕ = s / 2 ^ 63 in
    let P : ℕ → Type 0 = λ k. bit_at (bit_or low high) k ≡ 1 in
    elim (cases_lt (q % 64) 63) [
      | inl lt ↦ (
          let at : suc (q % 64) ≡ (q + 1) % 64 = omega arith in
          let half : s * 2 ^ 1 / 2 ≡ s = omega arith in
          subst P at (either low high (suc (q % 64)) (low_64 (s * 2 ^ 1) (suc (q % 64)) (omega arith) ∙ bit_at-suc (s * 2 ^ 1) (q % 64) ∙ ap (λ v. bit_at v (q % 64)) half ∙ on)))
      | inr ge ↦ (
          let at : 0 ≡ (q + 1) % 64 = omega arith in
          let last : q % 64 ≡ 63 = omega arith in
          subst P at (other low high 0 (bit_at_lowest high ∙ ap (λ k. bit_at s k) (sym last) ∙ on)))
    ]

rotated_down : (s q : ℕ) → 1 ≤ q → HasPair s q → HasPair (rotate_right w64 s 1) (q - 1)
rotated_down s q some on =
    let low : ℕ = s / 2 ^ 1 in
    let high : ℕ = s * 2 ^ 63 % 2 ^ 64 in
    let P : ℕ → Type 0 = λ k. bit_at (bit_or low high) k ≡ 1 in
    elim (cases_lt 0 (q % 64)) [
      | inl lt ↦ (
          let at : q % 64 - 1 ≡ (q - 1) % 64 = omega arith in
          let next : suc (q % 64 - 1) ≡ q % 64 = omega arith in
          let half : s / 2 ^ 1 ≡ s / 2 = omega arith in
          subst P at (either low high (q % 64 - 1) (ap (λ v. bit_at v (q % 64 - 1)) half ∙ sym (bit_at-suc s (q % 64 - 1)) ∙ ap (λ k. bit_at s k) next ∙ on)))
      | inr ge ↦ (
          let at : 63 ≡ (q - 1) % 64 = omega arith in
          let first : 0 ≡ q % 64 = omega arith in
          let z : s * 2 ^ 63 ≡ s * 2 ^ 63 + 0 = omega arith in
          let none : 0 < 2 ^ 63 = omega arith in
          subst P at (other low high 63 (low_64 (s * 2 ^ 63) 63 (omega arith) ∙ ap (λ v. bit_at v 63) z ∙ bit_at_cat_high s 63 0 63 none (omega arith) ∙ ap (λ k. bit_at s k) first ∙ on)))
    ]

pub taken_summed : (s : ℕ) (ws us : List ℕ) → 2 ≤ length ws → TakesWordsIn ws us → IsSummaryOf s (all_bits ws) → IsSummaryOf (rotate_left w64 s 1) (all_bits us)
taken_summed s ws us two moved h p on =
    let rest : List Bool = all_bits (take (length ws - 2) ws) in
    let blank : List Bool = replicate two_words false in
    let here : get_or (blank ++ rest) p false ≡ true = ap (λ (bs : List Bool). get_or bs p false) (sym moved) ∙ on in
    let size : length blank ≡ two_words = length-replicate two_words false in
    elim (cases_lt p two_words) [
      | inl lt ↦ absurd (true≢false (sym here ∙ get_or_append_left blank rest false p (omega (arith, size)) ∙ get_or-replicate two_words p false false lt))
      | inr ge ↦ (
          let kept : get_or rest (p - two_words) false ≡ true = sym (get_or-append_right blank rest two_words p false size ge) ∙ here in
          let old : get_or (all_bits ws) (p - two_words) false ≡ true = elim (cases_lt (p - two_words) (length rest)) [
            | inl lt ↦ ap (λ (bs : List Bool). get_or bs (p - two_words) false) (all_bits-cut ws (length ws - 2)) ∙ get_or_append_left rest (all_bits (drop (length ws - 2) ws)) false (p - two_words) lt ∙ kept
            | inr past ↦ absurd (true≢false (sym kept ∙ get_or_past rest (p - two_words) false past))
          ] in
          let at : (p - two_words) / 64 / 2 + 1 ≡ p / 64 / 2 = omega arith in
          subst (HasPair (rotate_left w64 s 1)) at (rotated_up s ((p - two_words) / 64 / 2) (h (p - two_words) old)))
    ]

pub given_summed : (s : ℕ) (ws us : List ℕ) → 2 ≤ length ws → GivesWordsUp ws us → IsSummaryOf s (all_bits ws) → IsSummaryOf (rotate_right w64 s 1) (all_bits us)
given_summed s ws us two moved h p on =
    let rest : List Bool = all_bits (drop 2 ws) in
    let blank : List Bool = replicate two_words false in
    let here : get_or (rest ++ blank) p false ≡ true = ap (λ (bs : List Bool). get_or bs p false) (sym moved) ∙ on in
    let back : two_words + p - two_words ≡ p = omega arith in
    elim (cases_lt p (length rest)) [
      | inl lt ↦ (
          let old : get_or (all_bits ws) (two_words + p) false ≡ true =
          ap (λ (bs : List Bool). get_or bs (two_words + p) false) (all_bits-cut ws 2) ∙ get_or-append_right (all_bits (take 2 ws)) rest two_words (two_words + p) false (first_words ws two) (omega arith)
          ∙ ap (λ k. get_or rest k false) back ∙ sym (get_or_append_left rest blank false p lt) ∙ here in
          let at : (two_words + p) / 64 / 2 - 1 ≡ p / 64 / 2 = omega arith in
          subst (HasPair (rotate_right w64 s 1)) at (rotated_down s ((two_words + p) / 64 / 2) (omega arith) (h (two_words + p) old)))
      | inr ge ↦ absurd (true≢false (sym here ∙ get_or-append_right rest blank (length rest) p false refl ge ∙ off (p - length rest)))
    ]
  where
    off : (k : ℕ) → get_or (replicate two_words false) k false ≡ false
    off k = elim (cases_lt k two_words) [
      | inl lt ↦ get_or-replicate two_words k false false lt
      | inr ge ↦ get_or_past (replicate two_words false) k false (omega (arith, length-replicate two_words false))
    ]

-- ---- a row

-- no bit stands in the words that fall out
front_kept : (ws : List ℕ) (len : ℕ) → len + two_words ≤ 64 * length ws → take len (all_bits (take (length ws - 2) ws)) ≡ take len (all_bits ws)
front_kept ws len room =
    let front : List ℕ = take (length ws - 2) ws in
    let size : length (all_bits front) ≡ 64 * (length ws - 2) = length-all_bits front ∙ ap (λ k. 64 * k) (length-take-le (length ws - 2) ws (omega arith)) in
    sym (take-append-le len (all_bits front) (all_bits (drop (length ws - 2) ws)) (omega (arith, size))) ∙ ap (λ (bs : List Bool). take len bs) (sym (all_bits-cut ws (length ws - 2)))

-- what comes after n bits, where two words of blank ones stand before them
after_blank : (n : ℕ) → length (replicate two_words false) + n ≡ n + two_words
after_blank n = omega (arith, length-replicate two_words false)

taken_front : (ws us : List ℕ) (len : ℕ) → len + two_words ≤ 64 * length ws → TakesWordsIn ws us → take (len + two_words) (all_bits us) ≡ replicate two_words false ++ take len (all_bits ws)
taken_front ws us len room moved =
    let blank : List Bool = replicate two_words false in
    let front : List Bool = all_bits (take (length ws - 2) ws) in
    ap (λ (bs : List Bool). take (len + two_words) bs) moved ∙ ap (λ k. take k (blank ++ front)) (sym (after_blank len)) ∙ take-append-add blank front len
    ∙ ap (λ (bs : List Bool). blank ++ bs) (front_kept ws len room)

taken_padded : (ws us : List ℕ) (len : ℕ) → len + two_words ≤ 64 * length ws → IsPadded ws len → TakesWordsIn ws us → IsPadded us (len + two_words)
taken_padded ws us len room h moved =
    let blank : List Bool = replicate two_words false in
    let front : List Bool = all_bits (take (length ws - 2) ws) in
    let back : List Bool = all_bits (drop (length ws - 2) ws) in
    let size : length front ≡ 64 * (length ws - 2) = length-all_bits (take (length ws - 2) ws) ∙ ap (λ k. 64 * k) (length-take-le (length ws - 2) ws (omega arith)) in
    let k : ℕ = length (drop len front) in
    let all : drop len (all_bits ws) ≡ drop len front ++ back = ap (λ (bs : List Bool). drop len bs) (all_bits-cut ws (length ws - 2)) ∙ drop-append-le len front back (omega (arith, size)) in
    let part : drop len front ≡ take k (drop len (all_bits ws)) =
    sym (take_all k (drop len front) (omega arith)) ∙ sym (take-append-le k (drop len front) back (omega arith)) ∙ ap (λ (bs : List Bool). take k bs) (sym all) in
    All-same Off (drop (len + two_words) (all_bits us)) (take k (drop len (all_bits ws)))
    (ap (λ (bs : List Bool). drop (len + two_words) bs) moved ∙ ap (λ n. drop n (blank ++ front)) (sym (after_blank len)) ∙ drop-append-add blank front len ∙ part)
    (All-take Off k (drop len (all_bits ws)) h)

-- the bits after the first two words
later_bits : (ws : List ℕ) → 2 ≤ length ws → all_bits (drop 2 ws) ≡ drop two_words (all_bits ws)
later_bits ws two =
    let none : two_words + 0 ≡ two_words = omega arith in
    let at : length (all_bits (take 2 ws)) + 0 ≡ two_words = omega (arith, first_words ws two) in
    sym (ap (λ (bs : List Bool). drop two_words bs) (all_bits-cut ws 2) ∙ ap (λ k. drop k (all_bits (take 2 ws) ++ all_bits (drop 2 ws))) (sym at) ∙ drop-append-add (all_bits (take 2 ws)) (all_bits (drop 2 ws)) 0)

given_front : (ws us : List ℕ) (len : ℕ) → two_words ≤ len → len ≤ 64 * length ws → GivesWordsUp ws us → take (len - two_words) (all_bits us) ≡ drop two_words (take len (all_bits ws))
given_front ws us len long le moved =
    let two : 2 ≤ length ws = omega arith in
    let rest : List Bool = all_bits (drop 2 ws) in
    let size : length rest ≡ 64 * length (drop 2 ws) = length-all_bits (drop 2 ws) in
    let n : two_words + (len - two_words) ≡ len = omega arith in
    ap (λ (bs : List Bool). take (len - two_words) bs) moved ∙ take-append-le (len - two_words) rest (replicate two_words false) (omega (arith, size, length-drop 2 ws))
    ∙ ap (λ (bs : List Bool). take (len - two_words) bs) (later_bits ws two)
    ∙ sym (drop-take two_words (len - two_words) (all_bits ws)) ∙ ap (λ k. drop two_words (take k (all_bits ws))) n

given_padded : (ws us : List ℕ) (len : ℕ) → two_words ≤ len → len ≤ 64 * length ws → IsPadded ws len → GivesWordsUp ws us → IsPadded us (len - two_words)
given_padded ws us len long le h moved =
    let two : 2 ≤ length ws = omega arith in
    let rest : List Bool = all_bits (drop 2 ws) in
    let blank : List Bool = replicate two_words false in
    let size : length rest ≡ 64 * length (drop 2 ws) = length-all_bits (drop 2 ws) in
    let n : two_words + (len - two_words) ≡ len = omega arith in
    All-same Off (drop (len - two_words) (all_bits us)) (drop len (all_bits ws) ++ blank)
    (ap (λ (bs : List Bool). drop (len - two_words) bs) moved ∙ drop-append-le (len - two_words) rest blank (omega (arith, size, length-drop 2 ws))
    ∙ ap (λ (bs : List Bool). drop (len - two_words) bs ++ blank) (later_bits ws two)
    ∙ ap (λ (bs : List Bool). bs ++ blank) (drop-drop (len - two_words) two_words (all_bits ws) ∙ ap (λ k. drop k (all_bits ws)) n))
    (All-append Off (drop len (all_bits ws)) blank h (All-replicate Off two_words false refl))

-- ---- rows

pub raised_held : (len w : ℕ) (slots ws us : List ℕ) → AreHeld len w slots ws → len + two_words ≤ 64 * w → length us ≡ length ws → EachSlot TakesWordsIn w ws us (length slots) → AreHeld (len + two_words) w slots us
raised_held len w slots ws us h room same each = record {
  covers = room;
  few = h.few;
  counted = h.counted;
  wide = same ∙ h.wide;
  below = h.below;
  apart = h.apart;
  padded = λ t lt.
      let long : length (words_in w ws t) ≡ w = length-words_in w (length slots) t ws h.wide lt in
      taken_padded (words_in w ws t) (words_in w us t) len (omega (arith, room, long)) (h.padded t lt) (each t lt);
}

pub raised_shown : (len w : ℕ) (slots ws us : List ℕ) → AreHeld len w slots ws → len + two_words ≤ 64 * w → EachSlot TakesWordsIn w ws us (length slots)
    → map (bits_in (len + two_words) w us) slots ≡ map (λ (row : List Bool). replicate two_words false ++ row) (map (bits_in len w ws) slots)
raised_shown len w slots ws us h room each =
    all_mapped (λ (row : List Bool). replicate two_words false ++ row) (bits_in len w ws) (bits_in (len + two_words) w us) (length slots) slots h.below (λ t lt.
    let long : length (words_in w ws t) ≡ w = length-words_in w (length slots) t ws h.wide lt in
    taken_front (words_in w ws t) (words_in w us t) len (omega (arith, room, long)) (each t lt))

pub lowered_held : (len w : ℕ) (slots ws us : List ℕ) → AreHeld len w slots ws → two_words ≤ len → length us ≡ length ws → EachSlot GivesWordsUp w ws us (length slots) → AreHeld (len - two_words) w slots us
lowered_held len w slots ws us h long same each = record {
  covers = omega (arith, h.covers);
  few = h.few;
  counted = h.counted;
  wide = same ∙ h.wide;
  below = h.below;
  apart = h.apart;
  padded = λ t lt. given_padded (words_in w ws t) (words_in w us t) len long (covers_row len w slots ws t h lt) (h.padded t lt) (each t lt);
}

pub lowered_shown : (len w : ℕ) (slots ws us : List ℕ) → AreHeld len w slots ws → two_words ≤ len → EachSlot GivesWordsUp w ws us (length slots)
    → map (bits_in (len - two_words) w us) slots ≡ map (drop two_words) (map (bits_in len w ws) slots)
lowered_shown len w slots ws us h long each =
    all_mapped (drop two_words) (bits_in len w ws) (bits_in (len - two_words) w us) (length slots) slots h.below
    (λ t lt. given_front (words_in w ws t) (words_in w us t) len long (covers_row len w slots ws t h lt) (each t lt))
