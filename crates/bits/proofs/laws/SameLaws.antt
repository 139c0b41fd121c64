-- Rows with equal bits have equal words, and rows that are equal beside the bits at one place.
use Rattle.std.proofs.Common.{◌≡◌, ◌≢◌, inl, inr, ℕ, zero, suc, ◌+◌, ◌-◌, ◌*◌, ◌/◌, ◌%◌, ◌^◌, ◌<◌, Bool, List, [], ◌∷◌, ◌++◌, length, take, drop, get_or, sym, ◌∙◌, ap, arith, subst, ◌≤◌, false, refl}
use Rattle.std.specs.Prelude.{nat_eq}
use Rattle.std.proofs.lemmas.List.{take-append-drop, take_at, drop_at, length-drop, same_lists, get_or_read, get_or_default, get_or-set_same, get_or-set_other, get_or-take, get_or-drop, length-set, length-take-le}
use Rattle.std.proofs.lemmas.Nat.{shr_below}
use Rattle.std.proofs.lemmas.Bool.{cases_Bool, eqb-true, eqb-false, cases_lt, cases_eq}
use Rattle.std.proofs.Math.ListN.{set}
use Rattle.std.specs.List.{remove}
use Rattle.bits.specs.steps.Packing.{word_bits, all_bits, IsPacked, AreAlikeBeside}
use Rattle.bits.proofs.laws.BitLaws.{length-word_bits, length-all_bits, all_bit_at, word_bit_at}

-- ---- Rows with equal bits have equal words.

-- a word by its bits
low_bit_decides : (v w : ℕ) → nat_eq (v % 2) 1 ≡ nat_eq (w % 2) 1 → v % 2 ≡ w % 2
low_bit_decides v w e =
    elim (cases_Bool (nat_eq (v % 2) 1)) [
      | inl t ↦ (eqb-true (v % 2) 1 t ∙ sym (eqb-true (w % 2) 1 (sym e ∙ t)))
      | inr f ↦ (
          let a : v % 2 ≢ 1 = eqb-false (v % 2) 1 f in
          let b : w % 2 ≢ 1 = eqb-false (w % 2) 1 (sym e ∙ f) in
          omega arith)
    ]

pub same_word : (n v w : ℕ) → v < 2 ^ n → w < 2 ^ n → word_bits n v ≡ word_bits n w → v ≡ w
unfolding word_bits
same_word zero v w a b e = omega arith
same_word (suc n) v w a b e =
    let head : nat_eq (v % 2) 1 ≡ nat_eq (w % 2) 1 = cc in
    let tail : word_bits n (v / 2) ≡ word_bits n (w / 2) = cc in
    let next : suc n ≡ n + 1 = omega arith in
    let P : ℕ → Type 0 = λ k. v < 2 ^ k in
    let Q : ℕ → Type 0 = λ k. w < 2 ^ k in
    let half : v / 2 ≡ w / 2 = same_word n (v / 2) (w / 2) (shr_below v n 1 (subst P next a)) (shr_below w n 1 (subst Q next b)) tail in
    let low : v % 2 ≡ w % 2 = low_bit_decides v w head in
    omega arith

same_bits_at : (vs ws : List ℕ) (k : ℕ) → all_bits vs ≡ all_bits ws → k < length vs → k < length ws → word_bits 64 (get_or vs k 0) ≡ word_bits 64 (get_or ws k 0)
same_bits_at [] ws k e a b = absurd (omega arith)
same_bits_at (v ∷ vs) [] k e a b = absurd (omega arith)
same_bits_at (v ∷ vs) (w ∷ ws) zero e a b =
    sym (take_at (word_bits 64 v) (all_bits vs) 64 (length-word_bits 64 v)) ∙ ap (λ (bs : List Bool). take 64 bs) e ∙ take_at (word_bits 64 w) (all_bits ws) 64 (length-word_bits 64 w)
same_bits_at (v ∷ vs) (w ∷ ws) (suc k) e a b =
    same_bits_at vs ws k (sym (drop_at (word_bits 64 v) (all_bits vs) 64 (length-word_bits 64 v)) ∙ ap (λ (bs : List Bool). drop 64 bs) e ∙ drop_at (word_bits 64 w) (all_bits ws) 64 (length-word_bits 64 w)) (omega arith) (omega arith)

-- ---- two rows of one length

pub same_size : (vs ws : List ℕ) (len : ℕ) → IsPacked vs len → IsPacked ws len → length vs ≡ length ws
same_size vs ws len g h = omega (arith, g.covers, g.tight, h.covers, h.tight)

same_whole : (vs ws : List ℕ) (len : ℕ) → IsPacked vs len → IsPacked ws len → take len (all_bits vs) ≡ take len (all_bits ws) → all_bits vs ≡ all_bits ws
same_whole vs ws len g h e =
    let n : length (all_bits vs) ≡ length (all_bits ws) = length-all_bits vs ∙ ap (λ k. 64 * k) (same_size vs ws len g h) ∙ sym (length-all_bits ws) in
    let m : length (drop len (all_bits vs)) ≡ length (drop len (all_bits ws)) = length-drop len (all_bits vs) ∙ ap (λ k. k - len) n ∙ sym (length-drop len (all_bits ws)) in
    let rest : drop len (all_bits vs) ≡ drop len (all_bits ws) = same_lists (drop len (all_bits vs)) (drop len (all_bits ws)) m (λ k d lt. g.padded k d lt ∙ sym (h.padded k d (omega arith))) in
    sym (take-append-drop len (all_bits vs)) ∙ ap (λ (bs : List Bool). bs ++ drop len (all_bits vs)) e ∙ ap (λ (bs : List Bool). take len (all_bits ws) ++ bs) rest ∙ take-append-drop len (all_bits ws)

-- at no place do their words differ
pub same_words_at : (vs ws : List ℕ) (len k v w : ℕ) → IsPacked vs len → IsPacked ws len → take len (all_bits vs) ≡ take len (all_bits ws) → k < length vs
    → v ≡ get_or vs k v → w ≡ get_or ws k w → v < 2 ^ 64 → w < 2 ^ 64 → v ≡ w
same_words_at vs ws len k v w g h e lt rv rw' a b =
    let lt' : k < length ws = omega (arith, same_size vs ws len g h) in
    let ev : v ≡ get_or vs k 0 = get_or_read vs k v lt rv 0 in
    let ew : w ≡ get_or ws k 0 = get_or_read ws k w lt' rw' 0 in
    same_word 64 v w a b (ap (word_bits 64) ev ∙ same_bits_at vs ws k (same_whole vs ws len g h e) lt lt' ∙ sym (ap (word_bits 64) ew))

-- ---- Rows that are equal beside the bits at one place.

-- ---- words

-- the k-th words of two rows have equal bits beside those at a place of the rows
abbrev pub WordsAlike : ℕ → ℕ → ℕ → ℕ → Type 0
WordsAlike at k v w = (r : ℕ) → r < 64 → 64 * k + r ≢ at → get_or (word_bits 64 v) r false ≡ get_or (word_bits 64 w) r false

-- of words that the place isn't in, these are equal
pub alike_elsewhere : (at k v w : ℕ) → v < 2 ^ 64 → w < 2 ^ 64 → k ≢ at / 64 → WordsAlike at k v w → v ≡ w
alike_elsewhere at k v w a b ne h =
    let m : length (word_bits 64 v) ≡ 64 = length-word_bits 64 v in
    let n : length (word_bits 64 w) ≡ 64 = length-word_bits 64 w in
    same_word 64 v w a b (same_lists (word_bits 64 v) (word_bits 64 w) (m ∙ sym n) (λ i d lt.
    let lt64 : i < 64 = omega (arith, lt, m) in
    get_or_default (word_bits 64 v) i d false lt ∙ h i lt64 (λ e. ne (omega (arith, e, lt64))) ∙ sym (get_or_default (word_bits 64 w) i d false (omega (arith, lt64, n)))))

-- of words that the place is in, the bits are equal once that at the place is 0
pub alike_cleared : (at k v w v' w' : ℕ) → k ≡ at / 64 → word_bits 64 v' ≡ set (word_bits 64 v) (at % 64) false → word_bits 64 w' ≡ set (word_bits 64 w) (at % 64) false → v' ≡ w' → WordsAlike at k v w
alike_cleared at k v w v' w' here e f same r lt ne =
    let other : r ≢ at % 64 = λ g. ne (omega (arith, g, here)) in
    sym (get_or-set_other (word_bits 64 v) (at % 64) r false false other) ∙ ap (λ (bs : List Bool). get_or bs r false) (sym e ∙ ap (word_bits 64) same ∙ f) ∙ get_or-set_other (word_bits 64 w) (at % 64) r false false other

pub cleared_alike : (at k v w v' w' : ℕ) → v' < 2 ^ 64 → w' < 2 ^ 64 → k ≡ at / 64 → word_bits 64 v' ≡ set (word_bits 64 v) (at % 64) false → word_bits 64 w' ≡ set (word_bits 64 w) (at % 64) false → WordsAlike at k v w → v' ≡ w'
cleared_alike at k v w v' w' a b here e f h =
    let bits : List Bool = word_bits 64 v in
    let others : List Bool = word_bits 64 w in
    let off : ℕ = at % 64 in
    let m : length bits ≡ 64 = length-word_bits 64 v in
    let n : length others ≡ 64 = length-word_bits 64 w in
    let size : length (set bits off false) ≡ 64 = length-set bits off false ∙ m in
    same_word 64 v' w' a b (e ∙ same_lists (set bits off false) (set others off false) (size ∙ sym (length-set others off false ∙ n)) (λ i d lt.
    let lt64 : i < 64 = omega (arith, lt, size) in
    elim (cases_eq i off) [
      | inl at_it ↦ (ap (λ j. get_or (set bits off false) j d) at_it ∙ get_or-set_same bits off false d (omega (arith, m)) ∙ sym (get_or-set_same others off false d (omega (arith, n))) ∙ sym (ap (λ j. get_or (set others off false) j d) at_it))
      | inr ne ↦ (
          get_or-set_other bits off i false d ne ∙ get_or_default bits i d false (omega (arith, lt64, m)) ∙ h i lt64 (λ g. ne (omega (arith, g, lt64)))
          ∙ sym (get_or_default others i d false (omega (arith, lt64, n))) ∙ sym (get_or-set_other others off i false d ne))
    ]) ∙ sym f)

-- a bit of a row by that of its word
bit_in_word : (ws : List ℕ) (k r : ℕ) → k < length ws → r < 64 → get_or (all_bits ws) (64 * k + r) false ≡ get_or (word_bits 64 (get_or ws k 0)) r false
bit_in_word ws k r lt lt64 = all_bit_at ws k r lt64 ∙ sym (word_bit_at 64 (get_or ws k 0) r lt64)

pub alike_more : (at k : ℕ) (vs ws : List ℕ) → k < length vs → k < length ws → AreAlikeBeside at (64 * k) (all_bits vs) (all_bits ws) → WordsAlike at k (get_or vs k 0) (get_or ws k 0)
    → AreAlikeBeside at (64 * (k + 1)) (all_bits vs) (all_bits ws)
alike_more at k vs ws a b h here p lt ne =
    elim (cases_lt p (64 * k)) [
      | inl below ↦ h p below ne
      | inr ge ↦ (
          let r : ℕ = p - 64 * k in
          let e : p ≡ 64 * k + r = omega (arith, ge) in
          let lt64 : r < 64 = omega (arith, ge, lt) in
          ap (λ j. get_or (all_bits vs) j false) e ∙ bit_in_word vs k r a lt64 ∙ here r lt64 (λ g. ne (e ∙ g)) ∙ sym (bit_in_word ws k r b lt64) ∙ sym (ap (λ j. get_or (all_bits ws) j false) e))
    ]

pub alike_word : (at n k : ℕ) (vs ws : List ℕ) → k < length vs → k < length ws → 64 * (k + 1) ≤ n → AreAlikeBeside at n (all_bits vs) (all_bits ws) → WordsAlike at k (get_or vs k 0) (get_or ws k 0)
alike_word at n k vs ws a b le h r lt64 ne = sym (bit_in_word vs k r a lt64) ∙ h (64 * k + r) (omega (arith, le, lt64)) ne ∙ bit_in_word ws k r b lt64

-- ---- rows

-- bits that are equal beside one place are equal once that is taken out
pub alike_removed : (at : ℕ) (xs ys : List Bool) → length xs ≡ length ys → AreAlikeBeside at (length xs) xs ys → remove xs at ≡ remove ys at
alike_removed at [] [] n h = refl
alike_removed at [] (y ∷ ys) n h = absurd (omega arith)
alike_removed at (x ∷ xs) [] n h = absurd (omega arith)
alike_removed zero (x ∷ xs) (y ∷ ys) n h =
    same_lists xs ys (omega arith) (λ i d lt. get_or_default xs i d false lt ∙ h (suc i) (omega (arith, lt)) (λ e. absurd (omega (arith, e))) ∙ sym (get_or_default ys i d false (omega (arith, n, lt))))
alike_removed (suc at) (x ∷ xs) (y ∷ ys) n h =
    let head : x ≡ y = h 0 (omega arith) (λ e. absurd (omega (arith, e))) in
    let rest : remove xs at ≡ remove ys at = alike_removed at xs ys (omega arith) (λ p lt ne. h (suc p) (omega (arith, lt)) (λ e. ne (omega (arith, e)))) in
    λ i. head i ∷ rest i

pub removed_alike : (at : ℕ) (xs ys : List Bool) → length xs ≡ length ys → remove xs at ≡ remove ys at → AreAlikeBeside at (length xs) xs ys
removed_alike at [] ys n e p lt ne = absurd (omega arith)
removed_alike at (x ∷ xs) [] n e p lt ne = absurd (omega arith)
removed_alike zero (x ∷ xs) (y ∷ ys) n e zero lt ne = absurd (ne refl)
removed_alike zero (x ∷ xs) (y ∷ ys) n e (suc p) lt ne = ap (λ (bs : List Bool). get_or bs p false) e
removed_alike (suc at) (x ∷ xs) (y ∷ ys) n e zero lt ne = let head : x ≡ y = cc in head
removed_alike (suc at) (x ∷ xs) (y ∷ ys) n e (suc p) lt ne =
    let tail : remove xs at ≡ remove ys at = cc in
    removed_alike at xs ys (omega arith) tail p (omega arith) (λ same. ne (ap suc same))

-- of packed words the bits past the last are equal too
pub packed_alike : (at len : ℕ) (vs ws : List ℕ) → IsPacked vs len → IsPacked ws len → remove (take len (all_bits vs)) at ≡ remove (take len (all_bits ws)) at → AreAlikeBeside at (64 * length vs) (all_bits vs) (all_bits ws)
packed_alike at len vs ws g h e p lt ne =
    let m : length (all_bits vs) ≡ 64 * length vs = length-all_bits vs in
    let n : length (all_bits ws) ≡ 64 * length ws = length-all_bits ws in
    let size : length vs ≡ length ws = same_size vs ws len g h in
    let a : length (take len (all_bits vs)) ≡ len = length-take-le len (all_bits vs) (omega (arith, g.covers, m)) in
    let b : length (take len (all_bits ws)) ≡ len = length-take-le len (all_bits ws) (omega (arith, h.covers, n)) in
    elim (cases_lt p len) [
      | inl below ↦ (
          sym (get_or-take len (all_bits vs) p false below) ∙ removed_alike at (take len (all_bits vs)) (take len (all_bits ws)) (a ∙ sym b) e p (omega (arith, a, below)) ne
          ∙ get_or-take len (all_bits ws) p false below)
      | inr past ↦ (
          let i : ℕ = p - len in
          let there : p ≡ len + i = omega (arith, past) in
          ap (λ j. get_or (all_bits vs) j false) there ∙ sym (get_or-drop len (all_bits vs) i false) ∙ g.padded i false (omega (arith, length-drop len (all_bits vs), m, lt, there))
          ∙ sym (ap (λ j. get_or (all_bits ws) j false) there ∙ sym (get_or-drop len (all_bits ws) i false) ∙ h.padded i false (omega (arith, length-drop len (all_bits ws), n, size, lt, there))))
    ]

pub alike_packed : (at len : ℕ) (vs ws : List ℕ) → IsPacked vs len → IsPacked ws len → AreAlikeBeside at (64 * length vs) (all_bits vs) (all_bits ws) → remove (take len (all_bits vs)) at ≡ remove (take len (all_bits ws)) at
alike_packed at len vs ws g h alike =
    let m : length (all_bits vs) ≡ 64 * length vs = length-all_bits vs in
    let n : length (all_bits ws) ≡ 64 * length ws = length-all_bits ws in
    let a : length (take len (all_bits vs)) ≡ len = length-take-le len (all_bits vs) (omega (arith, g.covers, m)) in
    let b : length (take len (all_bits ws)) ≡ len = length-take-le len (all_bits ws) (omega (arith, h.covers, n)) in
    alike_removed at (take len (all_bits vs)) (take len (all_bits ws)) (a ∙ sym b) (λ p lt ne.
    let below : p < len = omega (arith, lt, a) in
    get_or-take len (all_bits vs) p false below ∙ alike p (omega (arith, below, g.covers)) ne ∙ sym (get_or-take len (all_bits ws) p false below))
