-- A bit that comes into words, or goes, where blank words are passed over.
use Rattle.std.proofs.Common.{◌≡◌, ◌≢◌, inl, inr, ℕ, zero, suc, ◌+◌, ◌-◌, ◌*◌, ◌/◌, ◌%◌, ◌^◌, ◌<◌, ◌≤◌, Bool, true, false, List, [], ◌∷◌, ◌++◌, length, take, drop, get_or, refl, sym, ◌∙◌, ap, arith, subst, All, append_assoc, append-nil}
use Rattle.std.specs.List.{insert, remove}
use Rattle.std.proofs.Math.ListN.{set}
use Rattle.std.proofs.lemmas.Bool.{cases_Bool, cases_lt, cases_eq, true≢false}
use Rattle.std.proofs.lemmas.List.{get_or-drop, length-drop, take-append-drop, drop_more, take_more_set, drop-set-lt, length-take-le, take_all, drop_all, length-set, set-get_or, get_or-set_same, get_or-set_other, get_or_default, get_or_past}
use Rattle.std.proofs.lemmas.List.Edits.{remove-append_left, remove-append_right}
use Rattle.std.specs.Int.{bit_at}
use Rattle.std.specs.Prelude.{bit_and}
use Rattle.std.proofs.lemmas.Nat.{one_shl}
use Rattle.std.proofs.lemmas.Nat.Bits.{bit_at_and, bit_at_ones, bit_at-zero}
use Rattle.bits.specs.steps.Summaries.{Nowhere, HasPair, IsMarked, IsSummaryOf, IsBlank, HidesNoWord, StayBlank}
use Rattle.bits.specs.declared.sparse.Way.{Way}
use Rattle.bits.specs.declared.sparse.Way.TheVariants as way
use Rattle.bits.specs.steps.Held.{Shifts}
use Rattle.bits.specs.steps.Packing.{low_bit, word_bits, all_bits}
use Rattle.bits.proofs.laws.BitLaws.{length-word_bits, word_bit_at, all_bit_at, all_bits-append, length-all_bits, all_bits-cut, all_bits-one, word_first, Carried, carried_first, carried_more}

abbrev AreOff : List Bool → Type 0
AreOff bits = All (λ (b : Bool). b ≡ false) bits

-- ---- words without a bit

off_after : (x : Bool) (xs : List Bool) → AreOff (x ∷ xs) → AreOff xs
off_after x xs h k d lt = h (suc k) d (omega arith)

off_rest : (xs : List Bool) (n : ℕ) → AreOff xs → AreOff (drop n xs)
off_rest xs n h k d lt = get_or-drop n xs k d ∙ h (n + k) d (omega (arith, lt, length-drop n xs))

nothing_marked : (i : ℕ) → bit_at 0 i ≡ 1 → ⊥
nothing_marked i e = omega (arith, e, bit_at-zero i)

-- bits that are all off look the same with one more at either end
off_end : (xs : List Bool) → AreOff xs → xs ++ false ∷ [] ≡ false ∷ xs
off_end [] h = refl
off_end (x ∷ xs) h =
    let e : x ≡ false = h 0 false (omega arith) in
    ap (λ (ys : List Bool). x ∷ ys) (off_end xs (off_after x xs h)) ∙ ap (λ b. b ∷ false ∷ xs) e ∙ ap (λ b. false ∷ b ∷ xs) (sym e)

blank_read : (w i : ℕ) → IsBlank w → i < 64 → low_bit (w / 2 ^ i) ≡ false
blank_read w i h lt = sym (word_bit_at 64 w i lt) ∙ h i false (omega (arith, length-word_bits 64 w))

pub blank_low : (w : ℕ) → IsBlank w → low_bit w ≡ false
blank_low w h = let e : w / 2 ^ 0 ≡ w = omega arith in ap low_bit (sym e) ∙ blank_read w 0 h (omega arith)

blank_of : (w : ℕ) → ((i : ℕ) → i < 64 → low_bit (w / 2 ^ i) ≡ false) → IsBlank w
blank_of w h k d lt =
    let in' : k < 64 = omega (arith, lt, length-word_bits 64 w) in
    get_or_default (word_bits 64 w) k d false lt ∙ word_bit_at 64 w k in' ∙ h k in'

pub blank_zero : IsBlank 0
blank_zero = blank_of 0 (λ i lt. let e : 0 / 2 ^ i ≡ 0 = omega arith in ap low_bit e)

-- a blank word stays where a 0 comes into it, or comes in as its highest bit
blank_in : (w : ℕ) → IsBlank w → word_bits 64 w ++ false ∷ [] ≡ insert (word_bits 64 w) 0 false
blank_in w h = off_end (word_bits 64 w) h

blank_out : (w : ℕ) → IsBlank w → word_bits 64 w ≡ remove (word_bits 64 w) 0 ++ false ∷ []
blank_out w h =
    let P : List Bool → Type 0 = λ bits. AreOff bits in
    let rest : List Bool = drop 1 (word_bits 64 w) in
    let off : AreOff (low_bit w ∷ rest) = subst P (word_first w) h in
    word_first w ∙ ap (λ b. b ∷ rest) (blank_low w h) ∙ sym (off_end rest (off_after (low_bit w) rest off))

-- ---- rows without a bit

off_insert : (xs : List Bool) (at : ℕ) → AreOff xs → xs ++ false ∷ [] ≡ insert xs at false
off_insert xs at h =
    ap (λ (ys : List Bool). ys ++ false ∷ []) (sym (take-append-drop at xs)) ∙ append_assoc (take at xs) (drop at xs) (false ∷ [])
    ∙ ap (λ (ys : List Bool). take at xs ++ ys) (off_end (drop at xs) (off_rest xs at h))

off_remove : (xs : List Bool) (at : ℕ) → at < length xs → AreOff xs → xs ≡ remove xs at ++ false ∷ []
off_remove xs at lt h =
    let off : get_or xs at false ≡ false = h at false lt in
    let next : at + 1 ≡ suc at = omega arith in
    sym (take-append-drop at xs) ∙ ap (λ (ys : List Bool). take at xs ++ ys) (drop_more xs at false lt)
    ∙ ap (λ b. take at xs ++ b ∷ drop (at + 1) xs) off
    ∙ ap (λ (ys : List Bool). take at xs ++ ys) (sym (off_end (drop (at + 1) xs) (off_rest xs (at + 1) h)))
    ∙ sym (append_assoc (take at xs) (drop (at + 1) xs) (false ∷ []))
    ∙ ap (λ n. (take at xs ++ drop n xs) ++ false ∷ []) next

-- a row whose summary has no bit has none
off_by_summary : (bits : List Bool) → IsSummaryOf 0 bits → AreOff bits
off_by_summary bits h k d lt = elim (cases_Bool (get_or bits k false)) [
  | inl on ↦ absurd (nothing_marked (k / 64 / 2 % 64) (h k on))
  | inr off ↦ get_or_default bits k d false lt ∙ off
]

pub blank_shifts : (way : Way) (at : ℕ) (ws : List ℕ) → at < 64 * length ws → IsSummaryOf 0 (all_bits ws) → Shifts way at ws ws
blank_shifts way.In at ws lt h = (false, off_insert (all_bits ws) at (off_by_summary (all_bits ws) h))
blank_shifts way.Out at ws lt h = off_remove (all_bits ws) at (omega (arith, length-all_bits ws)) (off_by_summary (all_bits ws) h)

-- ---- what a summary says of words

-- each of the first words is blank where the summary lacks its bit
abbrev pub Sums : ℕ → List ℕ → ℕ → Type 0
Sums summary ws upto = (k : ℕ) → k < upto → (IsMarked summary k → ⊥) → IsBlank (get_or ws k 0)

pub hides_none : (summary : ℕ) (ws : List ℕ) → IsSummaryOf summary (all_bits ws) → (k : ℕ) → (IsMarked summary k → ⊥) → IsBlank (get_or ws k 0)
hides_none summary ws h k none = blank_of (get_or ws k 0) (λ i lt. elim (cases_lt k (length ws)) [
  | inl in' ↦ elim (cases_Bool (get_or (all_bits ws) (64 * k + i) false)) [
    | inl on ↦ (
        let e : (64 * k + i) / 64 ≡ k = omega arith in
        let P : ℕ → Type 0 = λ j. IsMarked summary j in
        absurd (none (subst P e (h (64 * k + i) on))))
    | inr off ↦ sym (all_bit_at ws k i lt) ∙ off
  ]
  | inr past ↦ ap (λ w. low_bit (w / 2 ^ i)) (get_or_past ws k 0 past) ∙ (let e : 0 / 2 ^ i ≡ 0 = omega arith in ap low_bit e)
])

pub sums_all : (summary : ℕ) (ws : List ℕ) (upto : ℕ) → Sums summary ws upto → length ws ≤ upto → IsSummaryOf summary (all_bits ws)
sums_all summary ws upto h le p on =
    elim (cases_eq (bit_at summary (p / 64 / 2 % 64)) 1) [
      | inl marked ↦ marked
      | inr none ↦ elim (cases_lt p (length (all_bits ws))) [
        | inl lt ↦ (
            let size : length (all_bits ws) ≡ 64 * length ws = length-all_bits ws in
            let e : 64 * (p / 64) + p % 64 ≡ p = omega arith in
            let in' : p / 64 < length ws = omega arith in
            absurd (true≢false (sym on ∙ sym (ap (λ k. get_or (all_bits ws) k false) e) ∙ all_bit_at ws (p / 64) (p % 64) (omega arith) ∙ blank_read (get_or ws (p / 64) 0) (p % 64) (h (p / 64) (omega arith) none) (omega arith))))
        | inr ge ↦ absurd (true≢false (sym on ∙ get_or_past (all_bits ws) p false ge))
      ]
    ]

sums_more : (summary after k w : ℕ) (us : List ℕ) → Sums summary us k → k < length us → ((j : ℕ) → IsMarked summary j → IsMarked after j) → (w ≢ 0 → IsMarked after k) → Sums after (set us k w) (k + 1)
sums_more summary after k w us h lt kept more j below none =
    elim (cases_eq j k) [
      | inl e ↦ (
          let P : ℕ → Type 0 = λ i. IsBlank (get_or (set us k w) i 0) in
          let Q : ℕ → Type 0 = λ v. IsBlank v in
          let R : ℕ → Type 0 = λ i. IsMarked after i in
          elim (cases_eq w 0) [
            | inl z ↦ subst P (sym e) (subst Q (sym (get_or-set_same us k w 0 lt ∙ z)) blank_zero)
            | inr ne ↦ absurd (none (subst R (sym e) (more ne)))
          ])
      | inr ne ↦ (
          let Q : ℕ → Type 0 = λ v. IsBlank v in
          subst Q (sym (get_or-set_other us k j w 0 ne)) (h j (omega (arith, below, ne)) (λ m. none (kept j m))))
    ]

-- ---- a bit that comes in

-- how far a bit has come in, with the words after that as they were, and those before it summed up
pub record Risen (ws : List ℕ) (at : ℕ) (b : Bool) (us : List ℕ) (k off : ℕ) (c : Bool) (summary : ℕ) : Type 0 where
  pub carried : Carried ws at b us k off c
  pub as_long : length us ≡ length ws
  pub rest : (j : ℕ) → k ≤ j → get_or us j 0 ≡ get_or ws j 0
  pub sums : Sums summary us k

pub risen_more : (ws : List ℕ) (at : ℕ) (b : Bool) (us : List ℕ) (k off w : ℕ) (c c' : Bool) (summary after : ℕ) → Risen ws at b us k off c summary → k < length us → word_bits 64 w ++ c' ∷ [] ≡ insert (word_bits 64 (get_or us k 0)) off c
    → ((j : ℕ) → IsMarked summary j → IsMarked after j) → (w ≢ 0 → IsMarked after k) → Risen ws at b (set us k w) (k + 1) 0 c' after
risen_more ws at b us k off w c c' summary after h lt e kept more = record {
  carried = carried_more ws at b us k off w c c' h.carried lt e;
  as_long = length-set us k w ∙ h.as_long;
  rest = λ j le. get_or-set_other us k j w 0 (λ same. absurd (omega arith)) ∙ h.rest j (omega arith);
  sums = sums_more summary after k w us h.sums lt kept more;
}

-- the two words of a pair, which share their mark
pub risen_pair : (ws : List ℕ) (at : ℕ) (us : List ℕ) (k off w v : ℕ) (c c' c'' : Bool) (summary after : ℕ) → Risen ws at false us k off c summary → k + 1 < length us → k % 2 ≡ 0
    → word_bits 64 w ++ c' ∷ [] ≡ insert (word_bits 64 (get_or us k 0)) off c → word_bits 64 v ++ c'' ∷ [] ≡ insert (word_bits 64 (get_or us (k + 1) 0)) 0 c'
    → ((j : ℕ) → IsMarked summary j → IsMarked after j) → (w ≢ 0 → IsMarked after k) → (v ≢ 0 → IsMarked after k) → Risen ws at false (set (set us k w) (k + 1) v) (k + 1 + 1) 0 c'' after
risen_pair ws at us k off w v c c' c'' summary after h lt even e e' kept more more' =
    let M : ℕ → Type 0 = λ p. HasPair after p in
    let same : k / 2 ≡ (k + 1) / 2 = omega arith in
    let other : get_or (set us k w) (k + 1) 0 ≡ get_or us (k + 1) 0 = get_or-set_other us k (k + 1) w 0 (λ is. absurd (omega arith)) in
    risen_more ws at false (set us k w) (k + 1) 0 v c' c'' after after (risen_more ws at false us k off w c c' summary after h (omega arith) e kept more) (omega (arith, length-set us k w))
    (e' ∙ ap (λ x. insert (word_bits 64 x) 0 c') (sym other)) (λ j m. m) (λ ne. subst M same (more' ne))

carried_past : (n : ℕ) (ws : List ℕ) (at : ℕ) (b : Bool) (us : List ℕ) (k : ℕ) → Carried ws at b us k 0 false → k + n ≤ length us → ((j : ℕ) → k ≤ j → j < k + n → IsBlank (get_or us j 0)) → Carried ws at b us (k + n) 0 false
carried_past zero ws at b us k h le blank =
    let e : k ≡ k + zero = omega arith in
    let P : ℕ → Type 0 = λ i. Carried ws at b us i 0 false in
    subst P e h
carried_past (suc n) ws at b us k h le blank =
    let w : ℕ = get_or us k 0 in
    let e : k + 1 + n ≡ k + suc n = omega arith in
    let P : List ℕ → Type 0 = λ vs. Carried ws at b vs (k + 1) 0 false in
    let Q : ℕ → Type 0 = λ i. Carried ws at b us i 0 false in
    let step : Carried ws at b us (k + 1) 0 false = subst P (set-get_or us k 0) (carried_more ws at b us k 0 w false false h (omega arith) (blank_in w (blank k (omega arith) (omega arith)))) in
    subst Q e (carried_past n ws at b us (k + 1) step (omega arith) (λ j ge below. blank j (omega arith) (omega arith)))

-- blank words are passed over, where no bit moves on
pub risen_past : (ws : List ℕ) (at : ℕ) (b : Bool) (us : List ℕ) (k next : ℕ) (c : Bool) (old summary : ℕ) → Risen ws at b us k 0 c summary → IsSummaryOf old (all_bits ws) → Nowhere (IsMarked old) k next → k ≤ next → next ≤ length us → (c ≡ true → next ≡ k)
    → Risen ws at b us next 0 c summary
risen_past ws at b us k next c old summary h is none low high same =
    elim (cases_Bool c) [
      | inl on ↦ (let P : ℕ → Type 0 = λ i. Risen ws at b us i 0 c summary in subst P (sym (same on)) h)
      | inr off ↦ (
          let e : k + (next - k) ≡ next = omega arith in
          let P : Bool → Type 0 = λ x. Carried ws at b us k 0 x in
          let Q : Bool → Type 0 = λ x. Carried ws at b us next 0 x in
          let R : ℕ → Type 0 = λ i. Carried ws at b us i 0 false in
          let S : ℕ → Type 0 = λ v. IsBlank v in
          let blank : (j : ℕ) → k ≤ j → j < next → IsBlank (get_or us j 0) = λ j ge below. subst S (sym (h.rest j ge)) (hides_none old ws is j (none j ge below)) in
          record {
            carried = subst Q (sym off) (subst R e (carried_past (next - k) ws at b us k (subst P off h.carried) (omega arith) (λ j ge below. blank j ge (omega arith))));
            as_long = h.as_long;
            rest = λ j le. h.rest j (omega arith);
            sums = λ j lt un. elim (cases_lt j k) [ inl below ↦ h.sums j below un | inr ge ↦ blank j ge lt ];
          })
    ]

-- ---- a bit that goes

-- how far the bits have moved down: those of the words from one on have lost their first, which the word before has
abbrev Drawn : List ℕ → ℕ → List ℕ → ℕ → Type 0
Drawn ws at us k = all_bits (take k us) ++ drop 1 (all_bits (drop k us) ++ false ∷ []) ≡ remove (all_bits ws) at ++ false ∷ []

low_ahead : (v : ℕ) (more : List Bool) → low_bit v ∷ drop 1 ((word_bits 64 v ++ more) ++ false ∷ []) ≡ (word_bits 64 v ++ more) ++ false ∷ []
low_ahead v more =
    let P : List Bool → Type 0 = λ bits. low_bit v ∷ drop 1 ((bits ++ more) ++ false ∷ []) ≡ (bits ++ more) ++ false ∷ [] in
    subst P (sym (word_first v)) refl

-- the first bit of what is left is the lowest of its first word
next_bit : (us : List ℕ) (j : ℕ) → low_bit (get_or us j 0) ∷ drop 1 (all_bits (drop j us) ++ false ∷ []) ≡ all_bits (drop j us) ++ false ∷ []
next_bit us j =
    elim (cases_lt j (length us)) [
      | inl lt ↦ (
          let P : List ℕ → Type 0 = λ vs. low_bit (get_or us j 0) ∷ drop 1 (all_bits vs ++ false ∷ []) ≡ all_bits vs ++ false ∷ [] in
          subst P (sym (drop_more us j 0 lt)) (low_ahead (get_or us j 0) (all_bits (drop (j + 1) us))))
      | inr ge ↦ (
          let P : List ℕ → Type 0 = λ vs. low_bit (get_or us j 0) ∷ drop 1 (all_bits vs ++ false ∷ []) ≡ all_bits vs ++ false ∷ [] in
          subst P (sym (drop_all j us ge)) (ap (λ v. low_bit v ∷ []) (get_or_past us j 0 ge)))
    ]

drawn_more : (us : List ℕ) (k off w : ℕ) → k < length us → off < 64 → word_bits 64 w ≡ remove (word_bits 64 (get_or us k 0)) off ++ low_bit (get_or us (k + 1) 0) ∷ []
    → all_bits (take (k + 1) (set us k w)) ++ drop 1 (all_bits (drop (k + 1) (set us k w)) ++ false ∷ []) ≡ all_bits (take k us) ++ (remove (all_bits (drop k us)) off ++ false ∷ [])
drawn_more us k off w lt small e =
    let v : ℕ = get_or us k 0 in
    let low : List Bool = all_bits (take k us) in
    let gone : List Bool = remove (word_bits 64 v) off in
    let next : Bool = low_bit (get_or us (k + 1) 0) in
    let rest : List Bool = all_bits (drop (k + 1) us) in
    let kk : k < k + 1 = omega arith in
    let t : all_bits (take (k + 1) (set us k w)) ≡ low ++ word_bits 64 w =
    ap all_bits (take_more_set us k w lt) ∙ all_bits-append (take k us) (w ∷ []) ∙ ap (λ (bs : List Bool). low ++ bs) (all_bits-one w) in
    let d : all_bits (drop (k + 1) (set us k w)) ≡ rest = ap all_bits (drop-set-lt (k + 1) us k w kk) in
    let within : off < length (word_bits 64 v) = omega (arith, length-word_bits 64 v) in
    let left : all_bits (take (k + 1) (set us k w)) ++ drop 1 (all_bits (drop (k + 1) (set us k w)) ++ false ∷ []) ≡ low ++ (gone ++ (rest ++ false ∷ [])) =
    ap (λ (bs : List Bool). bs ++ drop 1 (all_bits (drop (k + 1) (set us k w)) ++ false ∷ [])) t
    ∙ ap (λ (bs : List Bool). (low ++ word_bits 64 w) ++ drop 1 (bs ++ false ∷ [])) d
    ∙ append_assoc low (word_bits 64 w) (drop 1 (rest ++ false ∷ []))
    ∙ ap (λ (bs : List Bool). low ++ (bs ++ drop 1 (rest ++ false ∷ []))) e
    ∙ ap (λ (bs : List Bool). low ++ bs) (append_assoc gone (next ∷ []) (drop 1 (rest ++ false ∷ [])))
    ∙ ap (λ (bs : List Bool). low ++ (gone ++ bs)) (next_bit us (k + 1)) in
    let right : remove (all_bits (drop k us)) off ≡ gone ++ rest = ap (λ (vs : List ℕ). remove (all_bits vs) off) (drop_more us k 0 lt) ∙ remove-append_left (word_bits 64 v) rest off within in
    left ∙ sym (ap (λ (bs : List Bool). low ++ (bs ++ false ∷ [])) right ∙ ap (λ (bs : List Bool). low ++ bs) (append_assoc gone rest (false ∷ [])))

drawn_first : (ws : List ℕ) (at : ℕ) → at < 64 * length ws → all_bits (take (at / 64) ws) ++ (remove (all_bits (drop (at / 64) ws)) (at % 64) ++ false ∷ []) ≡ remove (all_bits ws) at ++ false ∷ []
drawn_first ws at lt =
    let low : List Bool = all_bits (take (at / 64) ws) in
    let rest : List Bool = all_bits (drop (at / 64) ws) in
    let q : at / 64 ≤ length ws = omega arith in
    let n : length low ≡ 64 * (at / 64) = length-all_bits (take (at / 64) ws) ∙ ap (λ k. 64 * k) (length-take-le (at / 64) ws q) in
    let ge : 64 * (at / 64) ≤ at = omega arith in
    let sub : at - 64 * (at / 64) ≡ at % 64 = omega arith in
    sym (append_assoc low (remove rest (at % 64)) (false ∷ []))
    ∙ ap (λ (bs : List Bool). bs ++ false ∷ []) (sym (ap (λ (bs : List Bool). remove bs at) (all_bits-cut ws (at / 64)) ∙ remove-append_right low rest (64 * (at / 64)) at n ge ∙ ap (λ k. low ++ remove rest k) sub))

-- the same where a bit of the rest is the first to go
drawn_as : (us : List ℕ) (k : ℕ) → k < length us → drop 1 (all_bits (drop k us) ++ false ∷ []) ≡ remove (all_bits (drop k us)) 0 ++ false ∷ []
drawn_as us k lt =
    let P : List ℕ → Type 0 = λ vs. drop 1 (all_bits vs ++ false ∷ []) ≡ remove (all_bits vs) 0 ++ false ∷ [] in
    let Q : List Bool → Type 0 = λ bits. drop 1 ((bits ++ all_bits (drop (k + 1) us)) ++ false ∷ []) ≡ remove (bits ++ all_bits (drop (k + 1) us)) 0 ++ false ∷ [] in
    subst P (sym (drop_more us k 0 lt)) (subst Q (sym (word_first (get_or us k 0))) refl)

drawn_on : (ws : List ℕ) (at : ℕ) (us : List ℕ) (k w : ℕ) → Drawn ws at us k → k < length us → word_bits 64 w ≡ remove (word_bits 64 (get_or us k 0)) 0 ++ low_bit (get_or us (k + 1) 0) ∷ [] → Drawn ws at (set us k w) (k + 1)
drawn_on ws at us k w h lt e = drawn_more us k 0 w lt (omega arith) e ∙ ap (λ (bs : List Bool). all_bits (take k us) ++ bs) (sym (drawn_as us k lt)) ∙ h

drawn_past : (n : ℕ) (ws : List ℕ) (at : ℕ) (us : List ℕ) (k : ℕ) → Drawn ws at us k → k + n ≤ length us → ((j : ℕ) → k ≤ j → j < k + n → IsBlank (get_or us j 0) × (low_bit (get_or us (j + 1) 0) ≡ false)) → Drawn ws at us (k + n)
drawn_past zero ws at us k h le blank =
    let e : k ≡ k + zero = omega arith in
    let P : ℕ → Type 0 = λ i. Drawn ws at us i in
    subst P e h
drawn_past (suc n) ws at us k h le blank =
    let w : ℕ = get_or us k 0 in
    let e : k + 1 + n ≡ k + suc n = omega arith in
    let P : List ℕ → Type 0 = λ vs. Drawn ws at vs (k + 1) in
    let Q : ℕ → Type 0 = λ i. Drawn ws at us i in
    let b = blank k (omega arith) (omega arith) in
    let same : word_bits 64 w ≡ remove (word_bits 64 w) 0 ++ low_bit (get_or us (k + 1) 0) ∷ [] = blank_out w b.0 ∙ ap (λ x. remove (word_bits 64 w) 0 ++ x ∷ []) (sym b.1) in
    let step : Drawn ws at us (k + 1) = subst P (set-get_or us k 0) (drawn_on ws at us k w h (omega arith) same) in
    subst Q e (drawn_past n ws at us (k + 1) step (omega arith) (λ j ge below. blank j (omega arith) (omega arith)))

-- how far a bit has gone, with the words after that as they were, and those before it summed up
pub record Fallen (ws : List ℕ) (at : ℕ) (us : List ℕ) (k summary : ℕ) : Type 0 where
  pub drawn : Drawn ws at us k
  pub as_long : length us ≡ length ws
  pub rest : (j : ℕ) → k ≤ j → get_or us j 0 ≡ get_or ws j 0
  pub sums : Sums summary us k

pub fallen_first : (ws : List ℕ) (at w summary after : ℕ) → at < 64 * length ws → Sums summary ws (at / 64) → word_bits 64 w ≡ remove (word_bits 64 (get_or ws (at / 64) 0)) (at % 64) ++ low_bit (get_or ws (at / 64 + 1) 0) ∷ []
    → ((j : ℕ) → IsMarked summary j → IsMarked after j) → (w ≢ 0 → IsMarked after (at / 64)) → Fallen ws at (set ws (at / 64) w) (at / 64 + 1) after
fallen_first ws at w summary after lt h e kept more =
    let in' : at / 64 < length ws = omega arith in
    record {
      drawn = drawn_more ws (at / 64) (at % 64) w in' (omega arith) e ∙ drawn_first ws at lt;
      as_long = length-set ws (at / 64) w;
      rest = λ j le. get_or-set_other ws (at / 64) j w 0 (λ same. absurd (omega arith));
      sums = sums_more summary after (at / 64) w ws h in' kept more;
    }

pub fallen_more : (ws : List ℕ) (at : ℕ) (us : List ℕ) (k w summary after : ℕ) → Fallen ws at us k summary → k < length us → word_bits 64 w ≡ remove (word_bits 64 (get_or us k 0)) 0 ++ low_bit (get_or us (k + 1) 0) ∷ []
    → ((j : ℕ) → IsMarked summary j → IsMarked after j) → (w ≢ 0 → IsMarked after k) → Fallen ws at (set us k w) (k + 1) after
fallen_more ws at us k w summary after h lt e kept more = record {
  drawn = drawn_on ws at us k w h.drawn lt e;
  as_long = length-set us k w ∙ h.as_long;
  rest = λ j le. get_or-set_other us k j w 0 (λ same. absurd (omega arith)) ∙ h.rest j (omega arith);
  sums = sums_more summary after k w us h.sums lt kept more;
}

-- the second word of a pair, which shares its mark with the first
fallen_second : (ws : List ℕ) (at : ℕ) (us : List ℕ) (k w v after : ℕ) → Fallen ws at (set us k w) (k + 1) after → k + 1 < length us → k % 2 ≡ 0
    → word_bits 64 v ≡ remove (word_bits 64 (get_or us (k + 1) 0)) 0 ++ low_bit (get_or us (k + 2) 0) ∷ [] → (v ≢ 0 → IsMarked after k)
    → Fallen ws at (set (set us k w) (k + 1) v) (k + 1 + 1) after
fallen_second ws at us k w v after h lt even e more =
    let M : ℕ → Type 0 = λ p. HasPair after p in
    let same : k / 2 ≡ (k + 1) / 2 = omega arith in
    let next : k + 2 ≡ k + 1 + 1 = omega arith in
    let here : get_or us (k + 1) 0 ≡ get_or (set us k w) (k + 1) 0 = sym (get_or-set_other us k (k + 1) w 0 (λ is. absurd (omega arith))) in
    let there : get_or us (k + 2) 0 ≡ get_or (set us k w) (k + 1 + 1) 0 = ap (λ i. get_or us i 0) next ∙ sym (get_or-set_other us k (k + 1 + 1) w 0 (λ is. absurd (omega arith))) in
    fallen_more ws at (set us k w) (k + 1) v after after h (omega (arith, length-set us k w))
    (e ∙ ap (λ x. remove (word_bits 64 x) 0 ++ low_bit (get_or us (k + 2) 0) ∷ []) here ∙ ap (λ x. remove (word_bits 64 (get_or (set us k w) (k + 1) 0)) 0 ++ low_bit x ∷ []) there)
    (λ j m. m) (λ ne. subst M same (more ne))

pub fallen_pair : (ws : List ℕ) (at : ℕ) (us : List ℕ) (k w v x summary after : ℕ) → Fallen ws at us k summary → k + 1 < length us → k % 2 ≡ 0
    → word_bits 64 w ≡ remove (word_bits 64 (get_or us k 0)) 0 ++ low_bit (get_or us (k + 1) 0) ∷ [] → word_bits 64 v ≡ remove (word_bits 64 (get_or us (k + 1) 0)) 0 ++ low_bit x ∷ [] → x ≡ get_or us (k + 2) 0
    → ((j : ℕ) → IsMarked summary j → IsMarked after j) → (w ≢ 0 → IsMarked after k) → (v ≢ 0 → IsMarked after k) → Fallen ws at (set (set us k w) (k + 1) v) (k + 1 + 1) after
fallen_pair ws at us k w v x summary after h lt even e e' is kept more more' =
    fallen_second ws at us k w v after (fallen_more ws at us k w summary after h (omega arith) e kept more) lt even (e' ∙ ap (λ y. remove (word_bits 64 (get_or us (k + 1) 0)) 0 ++ low_bit y ∷ []) is) more'

pub fallen_pair_first : (ws : List ℕ) (at w v x summary after : ℕ) → at < 64 * length ws → length ws % 2 ≡ 0 → at / 64 % 2 ≡ 0 → Sums summary ws (at / 64)
    → word_bits 64 w ≡ remove (word_bits 64 (get_or ws (at / 64) 0)) (at % 64) ++ low_bit (get_or ws (at / 64 + 1) 0) ∷ []
    → word_bits 64 v ≡ remove (word_bits 64 (get_or ws (at / 64 + 1) 0)) 0 ++ low_bit x ∷ [] → x ≡ get_or ws (at / 64 + 2) 0
    → ((j : ℕ) → IsMarked summary j → IsMarked after j) → (w ≢ 0 → IsMarked after (at / 64)) → (v ≢ 0 → IsMarked after (at / 64)) → Fallen ws at (set (set ws (at / 64) w) (at / 64 + 1) v) (at / 64 + 1 + 1) after
fallen_pair_first ws at w v x summary after lt pairs even sums e e' is kept more more' =
    fallen_second ws at ws (at / 64) w v after (fallen_first ws at w summary after lt sums e kept more) (omega arith) even (e' ∙ ap (λ y. remove (word_bits 64 (get_or ws (at / 64 + 1) 0)) 0 ++ low_bit y ∷ []) is) more'

pub fallen_past : (ws : List ℕ) (at : ℕ) (us : List ℕ) (k next summary : ℕ) → Fallen ws at us k summary → StayBlank us k next → k ≤ next → next ≤ length us → Fallen ws at us next summary
fallen_past ws at us k next summary h blank low high =
    let e : k + (next - k) ≡ next = omega arith in
    let P : ℕ → Type 0 = λ i. Drawn ws at us i in
    record {
      drawn = subst P e (drawn_past (next - k) ws at us k h.drawn (omega arith) (λ j ge below. blank j ge (omega arith)));
      as_long = h.as_long;
      rest = λ j le. h.rest j (omega arith);
      sums = λ j lt un. elim (cases_lt j k) [ inl below ↦ h.sums j below un | inr ge ↦ (blank j ge lt).0 ];
    }

-- the words from one on are as they were, and so is what the summary of all says of them
pub rest_hides_none : (ws us : List ℕ) (old k : ℕ) → IsSummaryOf old (all_bits ws) → ((j : ℕ) → k ≤ j → get_or us j 0 ≡ get_or ws j 0) → HidesNoWord old us k
rest_hides_none ws us old k h rest j ge none = let S : ℕ → Type 0 = λ v. IsBlank v in subst S (sym (rest j ge)) (hides_none old ws h j none)

pub fallen_all : (ws : List ℕ) (at : ℕ) (us : List ℕ) (k summary : ℕ) → Fallen ws at us k summary → length us ≤ k → all_bits us ≡ remove (all_bits ws) at ++ false ∷ []
fallen_all ws at us k summary h le =
    let P : List ℕ → Type 0 = λ vs. all_bits vs ++ drop 1 (all_bits (drop k us) ++ false ∷ []) ≡ remove (all_bits ws) at ++ false ∷ [] in
    let Q : List ℕ → Type 0 = λ vs. all_bits us ++ drop 1 (all_bits vs ++ false ∷ []) ≡ remove (all_bits ws) at ++ false ∷ [] in
    sym (append-nil (all_bits us)) ∙ subst Q (drop_all k us le) (subst P (take_all k us le) h.drawn)

-- words that are all blank up to one, which lacks its lowest bit if it follows any of them
pub stay_blank : (ws : List ℕ) (from to : ℕ) → ((k : ℕ) → from ≤ k → k < to → IsBlank (get_or ws k 0)) → (from < to → low_bit (get_or ws to 0) ≡ false) → StayBlank ws from to
stay_blank ws from to blank last k ge below = (
  blank k ge below,
  elim (cases_lt (k + 1) to) [
    | inl lt ↦ blank_low (get_or ws (k + 1) 0) (blank (k + 1) (omega arith) lt)
    | inr past ↦ (
        let e : to ≡ k + 1 = omega arith in
        let P : ℕ → Type 0 = λ j. low_bit (get_or ws j 0) ≡ false in
        subst P e (last (omega arith)))
  ],
)

pub sums_kept : (old summary : ℕ) (ws : List ℕ) (upto : ℕ) → IsSummaryOf old (all_bits ws) → ((k : ℕ) → k < upto → IsMarked old k → IsMarked summary k) → Sums summary ws upto
sums_kept old summary ws upto h kept k lt none = hides_none old ws h k (λ on. none (kept k lt on))

pub risen_first : (ws : List ℕ) (at : ℕ) (b : Bool) (summary : ℕ) → at ≤ 64 * length ws → Sums summary ws (at / 64) → Risen ws at b ws (at / 64) (at % 64) b summary
risen_first ws at b summary le h = record { carried = carried_first ws at b le; as_long = refl; rest = λ j ge. refl; sums = h }

pub kept_mark : (summary n k : ℕ) → n < 64 → k / 2 % 64 < n → IsMarked summary k → IsMarked (bit_and summary (1 * 2 ^ n % 2 ^ 64 - 1)) k
kept_mark summary n k small lt on =
    let i : ℕ = k / 2 % 64 in
    ap (λ m. bit_at (bit_and summary (m - 1)) i) (one_shl n 64 small) ∙ bit_at_and summary (2 ^ n - 1) i ∙ omega (arith, on, bit_at_ones n i lt)

-- a summary with the bit of each word fits the words
pub full_sums_up : (summary n : ℕ) (ws : List ℕ) → length ws ≡ n → ((k : ℕ) → k < n → IsMarked (2 ^ 64 - 1) k → IsMarked summary k) → IsSummaryOf summary (all_bits ws)
full_sums_up summary n ws size h p on =
    elim (cases_lt p (length (all_bits ws))) [
      | inl lt ↦ h (p / 64) (omega (arith, length-all_bits ws, size)) (bit_at_ones 64 (p / 64 / 2 % 64) (omega arith))
      | inr ge ↦ absurd (true≢false (sym on ∙ get_or_past (all_bits ws) p false ge))
    ]

-- ---- all words moved, whatever a summary says

full_mark : (k : ℕ) → IsMarked (2 ^ 64 - 1) k
full_mark k = bit_at_ones 64 (k / 2 % 64) (omega arith)

pub all_fallen_first : (ws : List ℕ) (at w : ℕ) → at < 64 * length ws → word_bits 64 w ≡ remove (word_bits 64 (get_or ws (at / 64) 0)) (at % 64) ++ low_bit (get_or ws (at / 64 + 1) 0) ∷ []
    → Fallen ws at (set ws (at / 64) w) (at / 64 + 1) (2 ^ 64 - 1)
all_fallen_first ws at w lt e = fallen_first ws at w (2 ^ 64 - 1) (2 ^ 64 - 1) lt (λ k below none. absurd (none (full_mark k))) e (λ j m. m) (λ ne. full_mark (at / 64))

pub all_fallen_more : (ws : List ℕ) (at : ℕ) (us : List ℕ) (k w : ℕ) → Fallen ws at us k (2 ^ 64 - 1) → k < length us
    → word_bits 64 w ≡ remove (word_bits 64 (get_or us k 0)) 0 ++ low_bit (get_or us (k + 1) 0) ∷ [] → Fallen ws at (set us k w) (k + 1) (2 ^ 64 - 1)
all_fallen_more ws at us k w h lt e = fallen_more ws at us k w (2 ^ 64 - 1) (2 ^ 64 - 1) h lt e (λ j m. m) (λ ne. full_mark k)

-- the last word, into which nothing comes
pub all_fallen_last : (ws : List ℕ) (at : ℕ) (us : List ℕ) (k i w : ℕ) → Fallen ws at us k (2 ^ 64 - 1) → k ≡ i → i + 1 ≡ length us
    → word_bits 64 w ≡ remove (word_bits 64 (get_or us i 0)) 0 ++ low_bit 0 ∷ [] → all_bits (set us i w) ≡ remove (all_bits ws) at ++ false ∷ []
all_fallen_last ws at us k i w h is last e =
    let F : ℕ → Type 0 = λ j. Fallen ws at us j (2 ^ 64 - 1) in
    let past : get_or us (i + 1) 0 ≡ 0 = get_or_past us (i + 1) 0 (omega arith) in
    fallen_all ws at (set us i w) (i + 1) (2 ^ 64 - 1)
    (all_fallen_more ws at us i w (subst F is h) (omega arith) (e ∙ ap (λ v. remove (word_bits 64 (get_or us i 0)) 0 ++ low_bit v ∷ []) (sym past)))
    (omega (arith, length-set us i w))
