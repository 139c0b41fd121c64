-- Rows of equally many bits as they are held: a row more or less, a place more or less, more words in each slot, none.
use Rattle.std.proofs.Common.{◌≡◌, ◌≢◌, OnOk, IsOk, Ok, Err, Result, inl, inr, ℕ, ◌+◌, ◌*◌, ◌^◌, ◌<◌, ◌≤◌, Bool, List, [], ◌++◌, length, take, drop, get_or, sym, ◌∙◌, ap, arith, subst, map, length-append, ◌-◌, append_assoc, replicate, zero, suc, false, ◌∷◌, refl, All}
use Rattle.std.specs.List.{insert, remove}
use Rattle.std.proofs.lemmas.Bool.{cases_lt, cases_eq, false≢true}
use Rattle.std.proofs.lemmas.List.{length-drop, length-map, take_at, drop_at, take_all, take-append-le, drop-append-le, length-replicate, drop-replicate, take-replicate}
use Rattle.std.proofs.lemmas.List.Edits.{length-insert, length-remove}
use Rattle.std.proofs.lemmas.List.Elements.{All-append, All-same, All-nil}
use Rattle.bits.specs.steps.Packing.{all_bits, word_bits}
use Rattle.bits.specs.steps.Held.{words_in, bits_in, IsPadded, AreBelow, AreApart, AreHeld, IsNoneOf, redirected, AreFirstTwo, EachSlot, TakesIn, GivesUp}
use Rattle.bits.specs.Rows.{RowsAndRoom}
use Rattle.bits.proofs.laws.SlotLaws.{below_more, below-insert, apart-insert, below-remove, apart-remove, gone, below-redirect, apart-redirect, one_more, one_less, redirected_same, redirected_other, all_mapped, same_mapped}
use Rattle.bits.proofs.laws.RowsLaws.{slots_in_order, length-words_in, shown_at, slot_below, covers_row, row_size, row_there}
use Rattle.bits.proofs.laws.BitLaws.{all_bits-append, length-all_bits}
use Rattle.bits.proofs.laws.RowLaws.{zeros, put_front, put_padded, zero_front, zero_padded, remove_front, remove_padded}

-- ---- Rows of equally many bits as they are held: a row more, and a row less.

-- ---- a row put after all others

pub appended_other : (w n t : ℕ) (ws row : List ℕ) → length ws ≡ n * w → t < n → words_in w (ws ++ row) t ≡ words_in w ws t
appended_other w n t ws row size lt =
    let o : t * w + w ≤ n * w = slots_in_order w t n lt in
    let le : t * w ≤ length ws = omega arith in
    let le' : w ≤ length (drop (t * w) ws) = omega (arith, length-drop (t * w) ws) in
    ap (λ (us : List ℕ). take w us) (drop-append-le (t * w) ws row le) ∙ take-append-le w (drop (t * w) ws) row le'

pub appended_here : (w n : ℕ) (ws row : List ℕ) → length ws ≡ n * w → length row ≡ w → words_in w (ws ++ row) n ≡ row
appended_here w n ws row size long = ap (λ (us : List ℕ). take w us) (drop_at ws row (n * w) size) ∙ take_all w row (omega arith)

-- the row in slot s, the k-th, put in once more after it, in a slot of its own
pub record IsDoubled (len w : ℕ) (slots ws : List ℕ) (k s : ℕ) (slots' ws' : List ℕ) : Type 0 where
  pub held : AreHeld len w slots ws
  pub row : k < length slots
  pub slot : s ≡ get_or slots k s
  pub few_rows : length slots < 2 ^ 32
  pub slots_are : slots' ≡ insert slots (k + 1) (length slots)
  pub words_are : ws' ≡ ws ++ words_in w ws s

pub doubled_size : (len w : ℕ) (slots ws : List ℕ) (k s : ℕ) (slots' ws' : List ℕ) → IsDoubled len w slots ws k s slots' ws' → length slots' ≡ length slots + 1
doubled_size len w slots ws k s slots' ws' h = ap (λ (ss : List ℕ). length ss) h.slots_are ∙ length-insert slots (k + 1) (length slots) (omega (arith, h.row))

pub doubled_other : (len w : ℕ) (slots ws : List ℕ) (k s : ℕ) (slots' ws' : List ℕ) → IsDoubled len w slots ws k s slots' ws' → (t : ℕ) → t < length slots → words_in w ws' t ≡ words_in w ws t
doubled_other len w slots ws k s slots' ws' h t lt = ap (λ (us : List ℕ). words_in w us t) h.words_are ∙ appended_other w (length slots) t ws (words_in w ws s) h.held.wide lt

pub doubled_here : (len w : ℕ) (slots ws : List ℕ) (k s : ℕ) (slots' ws' : List ℕ) → IsDoubled len w slots ws k s slots' ws' → words_in w ws' (length slots) ≡ words_in w ws s
doubled_here len w slots ws k s slots' ws' h =
    let lt : s < length slots = slot_below len w slots ws k s h.held h.row h.slot in
    ap (λ (us : List ℕ). words_in w us (length slots)) h.words_are ∙ appended_here w (length slots) ws (words_in w ws s) h.held.wide (length-words_in w (length slots) s ws h.held.wide lt)

pub one_row_more : (n w : ℕ) → (n + 1) * w ≡ n * w + w
one_row_more n w = omega arith

pub doubled_held : (len w : ℕ) (slots ws : List ℕ) (k s : ℕ) (slots' ws' : List ℕ) → IsDoubled len w slots ws k s slots' ws' → AreHeld len w slots' ws'
doubled_held len w slots ws k s slots' ws' h =
    let n : length slots' ≡ length slots + 1 = doubled_size len w slots ws k s slots' ws' h in
    let lt : s < length slots = slot_below len w slots ws k s h.held h.row h.slot in
    let long : length (words_in w ws s) ≡ w = length-words_in w (length slots) s ws h.held.wide lt in
    let P : List ℕ → Type 0 = λ row. IsPadded row len in
    let Q : List ℕ → Type 0 = λ ss. AreBelow (length slots + 1) ss in
    let R : ℕ → Type 0 = λ m. AreBelow m slots' in
    let S : List ℕ → Type 0 = λ ss. AreApart ss in
    let more : AreBelow (length slots + 1) (insert slots (k + 1) (length slots)) =
    below-insert (length slots + 1) slots (k + 1) (length slots) (below_more (length slots) (length slots + 1) slots (omega arith) h.held.below) (omega arith) in
    record {
      covers = h.held.covers;
      few = h.held.few;
      counted = omega (arith, n, h.few_rows);
      wide = ap (λ (us : List ℕ). length us) h.words_are ∙ length-append ws (words_in w ws s) ∙ ap (λ m. m + length (words_in w ws s)) h.held.wide ∙ ap (λ m. length slots * w + m) long
          ∙ sym (one_row_more (length slots) w) ∙ ap (λ m. m * w) (sym n);
      below = subst R (sym n) (subst Q (sym h.slots_are) more);
      apart = subst S (sym h.slots_are) (apart-insert (length slots) slots (k + 1) h.held.apart h.held.below);
      padded = λ t lt'. elim (cases_lt t (length slots)) [
        | inl old ↦ subst P (sym (doubled_other len w slots ws k s slots' ws' h t old)) (h.held.padded t old)
        | inr new ↦ (
            let e : t ≡ length slots = omega (arith, new, lt', n) in
            let T : ℕ → Type 0 = λ x. IsPadded (words_in w ws' x) len in
            subst T (sym e) (subst P (sym (doubled_here len w slots ws k s slots' ws' h)) (h.held.padded s lt)))
      ];
    }

pub doubled_shown : (len w : ℕ) (slots ws : List ℕ) (k s : ℕ) (slots' ws' : List ℕ) → IsDoubled len w slots ws k s slots' ws'
    → map (bits_in len w ws') slots' ≡ insert (map (bits_in len w ws) slots) (k + 1) (get_or (map (bits_in len w ws) slots) k [])
doubled_shown len w slots ws k s slots' ws' h =
    let f : ℕ → List Bool = bits_in len w ws in
    let g : ℕ → List Bool = bits_in len w ws' in
    ap (λ (ss : List ℕ). map g ss) h.slots_are
    ∙ one_more f g (length slots) slots (k + 1) (get_or (map f slots) k []) h.held.below
    (λ t lt. ap (λ (row : List ℕ). take len (all_bits row)) (doubled_other len w slots ws k s slots' ws' h t lt))
    (ap (λ (row : List ℕ). take len (all_bits row)) (doubled_here len w slots ws k s slots' ws' h) ∙ sym (shown_at len w slots ws k s [] h.row h.slot))

-- ---- a row taken out

-- the row in slot s, the k-th, taken out: the row in the last slot has moved to its slot
pub record IsTakenOut (len w : ℕ) (slots ws : List ℕ) (k s last : ℕ) (slots' ws' : List ℕ) : Type 0 where
  pub held : AreHeld len w slots ws
  pub row : k < length slots
  pub slot : s ≡ get_or slots k s
  pub count : length slots ≡ last + 1
  pub slots_are : slots' ≡ map (redirected last s) (remove slots k)
  pub long : length ws' ≡ last * w
  pub here : s < last → words_in w ws' s ≡ words_in w ws last
  pub others : (t : ℕ) → t < last → t ≢ s → words_in w ws' t ≡ words_in w ws t

taken_below : (len w : ℕ) (slots ws : List ℕ) (k s last : ℕ) (slots' ws' : List ℕ) → IsTakenOut len w slots ws k s last slots' ws' → s < length slots
taken_below len w slots ws k s last slots' ws' h = slot_below len w slots ws k s h.held h.row h.slot

pub taken_size : (len w : ℕ) (slots ws : List ℕ) (k s last : ℕ) (slots' ws' : List ℕ) → IsTakenOut len w slots ws k s last slots' ws' → length slots' ≡ last
taken_size len w slots ws k s last slots' ws' h =
    ap (λ (ss : List ℕ). length ss) h.slots_are ∙ length-map (remove slots k) (redirected last s) ∙ (let m = length-remove slots k h.row in omega (arith, m, h.count))

pub taken_held : (len w : ℕ) (slots ws : List ℕ) (k s last : ℕ) (slots' ws' : List ℕ) → IsTakenOut len w slots ws k s last slots' ws' → AreHeld len w slots' ws'
taken_held len w slots ws k s last slots' ws' h =
    let n : length slots' ≡ last = taken_size len w slots ws k s last slots' ws' h in
    let lt : s < last + 1 = omega (arith, taken_below len w slots ws k s last slots' ws' h, h.count) in
    let le : last ≤ length slots = omega (arith, h.count) in
    let P : List ℕ → Type 0 = λ row. IsPadded row len in
    let Q : ℕ → Type 0 = λ m. AreBelow m slots' in
    let R : List ℕ → Type 0 = λ ss. AreBelow last ss in
    let S : List ℕ → Type 0 = λ ss. AreApart ss in
    let T : ℕ → Type 0 = λ m. AreBelow m (remove slots k) in
    let U : ℕ → Type 0 = λ x. IsNoneOf x (remove slots k) in
    let below : AreBelow (last + 1) (remove slots k) = subst T h.count (below-remove (length slots) slots k h.held.below) in
    let free : IsNoneOf s (remove slots k) = subst U (sym h.slot) (gone slots k s h.held.apart h.row) in
    record {
      covers = h.held.covers;
      few = h.held.few;
      counted = omega (arith, n, h.count, h.held.counted);
      wide = h.long ∙ ap (λ m. m * w) (sym n);
      below = subst Q (sym n) (subst R (sym h.slots_are) (below-redirect last s (remove slots k) below free lt));
      apart = subst S (sym h.slots_are) (apart-redirect last s (remove slots k) (apart-remove slots k h.held.apart) free);
      padded = λ t lt'. (
          let in' : t < last = omega (arith, lt', n) in
          elim (cases_eq t s) [
            | inl e ↦ (
                let V : ℕ → Type 0 = λ x. IsPadded (words_in w ws' x) len in
                subst V (sym e) (subst P (sym (h.here (omega (arith, e, in')))) (h.held.padded last (omega (arith, h.count)))))
            | inr ne ↦ subst P (sym (h.others t in' ne)) (h.held.padded t (omega (arith, in', le)))
          ]);
    }

pub taken_shown : (len w : ℕ) (slots ws : List ℕ) (k s last : ℕ) (slots' ws' : List ℕ) → IsTakenOut len w slots ws k s last slots' ws' → map (bits_in len w ws') slots' ≡ remove (map (bits_in len w ws) slots) k
taken_shown len w slots ws k s last slots' ws' h =
    let f : ℕ → List Bool = bits_in len w ws in
    let g : ℕ → List Bool = bits_in len w ws' in
    let lt : s < last + 1 = omega (arith, taken_below len w slots ws k s last slots' ws' h, h.count) in
    let gone_slot : get_or slots k s ≡ s = sym h.slot in
    let each : (t : ℕ) → t < length slots → t ≢ get_or slots k s → g (redirected last (get_or slots k s) t) ≡ f t = λ t lt' ne.
    let ne' : t ≢ s = λ e. ne (e ∙ h.slot) in
    ap (λ x. g (redirected last x t)) gone_slot
    ∙ elim (cases_eq t last) [
      | inl e ↦ (ap g (redirected_same last s t e)
          ∙ ap (λ (row : List ℕ). take len (all_bits row)) (h.here (omega (arith, lt, e, ne'))) ∙ ap f (sym e))
      | inr other ↦ (ap g (redirected_other last s t other)
          ∙ ap (λ (row : List ℕ). take len (all_bits row)) (h.others t (omega (arith, lt', h.count, other)) ne'))
    ] in
    ap (λ (ss : List ℕ). map g ss) (h.slots_are ∙ ap (λ x. map (redirected last x) (remove slots k)) (sym gone_slot))
    ∙ one_less f g (length slots) last slots k s h.held.below h.held.apart h.row each

-- ---- what is said of a call that returned a value

pub on_ok : {T E P : Type 0} (r : Result T E) → OnOk r P → IsOk r → P
on_ok (Ok x) h i = h
on_ok (Err e) h i = absurd (false≢true i)

-- ---- the last row moved

-- what a call wrote over all of a vector
pub all_written : {X : Type 0} (n : ℕ) (us ws : List X) → length us ≡ n → take n (us ++ drop (length us) ws) ≡ us
all_written n us ws e = take_at us (drop (length us) ws) n e

-- ---- Rows moved to slots with more words.

-- the rows below slot i, each with zeros after it
pub record Widened (w v : ℕ) (ws us : List ℕ) (i : ℕ) : Type 0 where
  pub size : length us ≡ i * v
  pub rows : (t : ℕ) → t < i → words_in v us t ≡ words_in w ws t ++ replicate (v - w) 0

pub widened_first : (w v : ℕ) (ws : List ℕ) → Widened w v ws [] 0
widened_first w v ws = record { size = (let e : 0 ≡ 0 * v = omega arith in e); rows = λ t lt. absurd (omega arith) }

pub widened_more : (w v n : ℕ) (ws us new : List ℕ) (i : ℕ) → Widened w v ws us i → length ws ≡ n * w → i < n → w ≤ v → new ≡ us ++ (words_in w ws i ++ replicate (v - w) 0) → Widened w v ws new (i + 1)
widened_more w v n ws us new i h size lt le is =
    let none : List ℕ = replicate (v - w) 0 in
    let row : List ℕ = words_in w ws i ++ none in
    let full : w + (v - w) ≡ v = omega (arith, le) in
    let long : length row ≡ v =
    length-append (words_in w ws i) none ∙ ap (λ m. m + length none) (length-words_in w n i ws size lt) ∙ ap (λ m. w + m) (length-replicate (v - w) 0) ∙ full in
    record {
      size = ap (λ (vs : List ℕ). length vs) is ∙ length-append us row ∙ ap (λ m. m + length row) h.size ∙ ap (λ m. i * v + m) long ∙ sym (one_row_more i v);
      rows = λ t lt'. ap (λ (vs : List ℕ). words_in v vs t) is ∙ elim (cases_eq t i) [
        | inl e ↦ (let P : ℕ → Type 0 = λ x. words_in v (us ++ row) x ≡ words_in w ws x ++ none in subst P (sym e) (appended_here v i us row h.size long))
        | inr ne ↦ (let below : t < i = omega (arith, lt', ne) in appended_other v i t us row h.size below ∙ h.rows t below)
      ];
    }

-- what the code appends: the row, and zeros up to where the next slot begins
pub widened_step : (w v n : ℕ) (ws us ext new : List ℕ) (i m : ℕ) → Widened w v ws us i → length ws ≡ n * w → i < n → w ≤ v → ext ≡ us ++ words_in w ws i → m ≡ length ext
    → new ≡ take ((i + 1) * v) ext ++ replicate ((i + 1) * v - m) 0 → Widened w v ws new (i + 1)
widened_step w v n ws us ext new i m h size lt le is size' made =
    let long : length ext ≡ i * v + w =
    ap (λ (vs : List ℕ). length vs) is ∙ length-append us (words_in w ws i) ∙ ap (λ k. k + length (words_in w ws i)) h.size ∙ ap (λ k. i * v + k) (length-words_in w n i ws size lt) in
    let more : (i + 1) * v ≡ i * v + v = one_row_more i v in
    let whole : take ((i + 1) * v) ext ≡ ext = take_all ((i + 1) * v) ext (omega (arith, more, long, le)) in
    let left : (i + 1) * v - m ≡ v - w = omega (arith, more, long, size', le) in
    widened_more w v n ws us new i h size lt le
    (made ∙ ap (λ (vs : List ℕ). vs ++ replicate ((i + 1) * v - m) 0) (whole ∙ is) ∙ ap (λ k. (us ++ words_in w ws i) ++ replicate k 0) left ∙ append_assoc us (words_in w ws i) (replicate (v - w) 0))

-- ---- Rows of equally many bits as they are held: a place more, a place less, more room, none.

abbrev Off : Bool → Type 0
Off b = b ≡ false

-- ---- a place more

row_as_long : (len w : ℕ) (slots ws us : List ℕ) (t : ℕ) → AreHeld len w slots ws → length us ≡ length ws → t < length slots → length (words_in w us t) ≡ length (words_in w ws t)
row_as_long len w slots ws us t h same lt =
    length-words_in w (length slots) t us (same ∙ h.wide) lt ∙ sym (length-words_in w (length slots) t ws h.wide lt)

pub opened_held : (len w at : ℕ) (slots ws us : List ℕ) → AreHeld len w slots ws → len < 64 * w → at ≤ len → length us ≡ length ws → EachSlot (TakesIn at) w ws us (length slots) → AreHeld (len + 1) w slots us
opened_held len w at slots ws us h room le same each = record {
  covers = omega arith;
  few = h.few;
  counted = h.counted;
  wide = same ∙ h.wide;
  below = h.below;
  apart = h.apart;
  padded = λ t lt.
      let long : length (words_in w ws t) ≡ w = length-words_in w (length slots) t ws h.wide lt in
      put_padded (words_in w ws t) (words_in w us t) len at false (each t lt).0 (omega arith) (h.padded t lt) le (each t lt).1 (row_as_long len w slots ws us t h same lt);
}

pub opened_shown : (len w at : ℕ) (slots ws us : List ℕ) → AreHeld len w slots ws → len < 64 * w → at ≤ len → length us ≡ length ws → EachSlot (TakesIn at) w ws us (length slots)
    → map (bits_in (len + 1) w us) slots ≡ map (λ (row : List Bool). insert row at false) (map (bits_in len w ws) slots)
opened_shown len w at slots ws us h room le same each =
    all_mapped (λ (row : List Bool). insert row at false) (bits_in len w ws) (bits_in (len + 1) w us) (length slots) slots h.below (λ t lt.
    let long : length (words_in w ws t) ≡ w = length-words_in w (length slots) t ws h.wide lt in
    put_front (words_in w ws t) (words_in w us t) len at false (each t lt).0 (omega arith) le (each t lt).1 (row_as_long len w slots ws us t h same lt))

-- after the last bit there is a 0 already
pub appended_held : (len w : ℕ) (slots ws : List ℕ) → AreHeld len w slots ws → len < 64 * w → AreHeld (len + 1) w slots ws
appended_held len w slots ws h room = record {
  covers = omega arith;
  few = h.few;
  counted = h.counted;
  wide = h.wide;
  below = h.below;
  apart = h.apart;
  padded = λ t lt. zero_padded (words_in w ws t) len (h.padded t lt);
}

pub appended_shown : (len w at : ℕ) (slots ws : List ℕ) → AreHeld len w slots ws → len < 64 * w → at ≡ len
    → map (bits_in (len + 1) w ws) slots ≡ map (λ (row : List Bool). insert row at false) (map (bits_in len w ws) slots)
appended_shown len w at slots ws h room is =
    all_mapped (λ (row : List Bool). insert row at false) (bits_in len w ws) (bits_in (len + 1) w ws) (length slots) slots h.below (λ t lt.
    let long : length (words_in w ws t) ≡ w = length-words_in w (length slots) t ws h.wide lt in
    zero_front (words_in w ws t) len (omega arith) (h.padded t lt) ∙ ap (λ k. insert (take len (all_bits (words_in w ws t))) k false) (sym is))

-- ---- a place less

pub closed_held : (len w at : ℕ) (slots ws us : List ℕ) → AreHeld len w slots ws → at < len → length us ≡ length ws → EachSlot (GivesUp at) w ws us (length slots) → AreHeld (len - 1) w slots us
closed_held len w at slots ws us h in' same each = record {
  covers = omega (arith, h.covers);
  few = h.few;
  counted = h.counted;
  wide = same ∙ h.wide;
  below = h.below;
  apart = h.apart;
  padded = λ t lt. remove_padded (words_in w ws t) (words_in w us t) len at (covers_row len w slots ws t h lt) (h.padded t lt) in' (each t lt);
}

pub closed_shown : (len w at : ℕ) (slots ws us : List ℕ) → AreHeld len w slots ws → at < len → EachSlot (GivesUp at) w ws us (length slots)
    → map (bits_in (len - 1) w us) slots ≡ map (λ (row : List Bool). remove row at) (map (bits_in len w ws) slots)
closed_shown len w at slots ws us h in' each =
    all_mapped (λ (row : List Bool). remove row at) (bits_in len w ws) (bits_in (len - 1) w us) (length slots) slots h.below (λ t lt.
    remove_front (words_in w ws t) (words_in w us t) len at (covers_row len w slots ws t h lt) in' (each t lt))

-- ---- more room

pub all_zeros : (n : ℕ) → All Off (all_bits (replicate n 0))
all_zeros zero = All-nil Off
all_zeros (suc n) = All-append Off (word_bits 64 0) (all_bits (replicate n 0)) (zeros 64) (all_zeros n)

pub widened_held : (len w v : ℕ) (slots ws us : List ℕ) → AreHeld len w slots ws → w ≤ v → v < 2 ^ 58 → Widened w v ws us (length slots) → AreHeld len v slots us
widened_held len w v slots ws us h le few wide = record {
  covers = omega (arith, h.covers);
  few = few;
  counted = h.counted;
  wide = wide.size;
  below = h.below;
  apart = h.apart;
  padded = λ t lt.
      let row : List ℕ = words_in w ws t in
      let in' : len ≤ length (all_bits row) = omega (arith, length-all_bits row, covers_row len w slots ws t h lt) in
      All-same Off (drop len (all_bits (words_in v us t))) (drop len (all_bits row) ++ all_bits (replicate (v - w) 0))
      (ap (λ (vs : List ℕ). drop len (all_bits vs)) (wide.rows t lt) ∙ ap (λ (bs : List Bool). drop len bs) (all_bits-append row (replicate (v - w) 0)) ∙ drop-append-le len (all_bits row) (all_bits (replicate (v - w) 0)) in')
      (All-append Off (drop len (all_bits row)) (all_bits (replicate (v - w) 0)) (h.padded t lt) (all_zeros (v - w)));
}

pub widened_shown : (len w v : ℕ) (slots ws us : List ℕ) → AreHeld len w slots ws → Widened w v ws us (length slots) → map (bits_in len v us) slots ≡ map (bits_in len w ws) slots
widened_shown len w v slots ws us h wide =
    same_mapped (bits_in len w ws) (bits_in len v us) (length slots) slots h.below (λ t lt.
    let row : List ℕ = words_in w ws t in
    let in' : len ≤ length (all_bits row) = omega (arith, length-all_bits row, covers_row len w slots ws t h lt) in
    ap (λ (vs : List ℕ). take len (all_bits vs)) (wide.rows t lt) ∙ ap (λ (bs : List Bool). take len bs) (all_bits-append row (replicate (v - w) 0)) ∙ take-append-le len (all_bits row) (all_bits (replicate (v - w) 0)) in')

-- ---- what a call asks of each row, asked of the number of bits

first_read : (slots : List ℕ) → 0 < length slots → get_or slots 0 0 ≡ get_or slots 0 (get_or slots 0 0)
first_read [] lt = absurd (omega arith)
first_read (s ∷ ss) lt = refl

first_there : (len w : ℕ) (slots ws : List ℕ) (shown : RowsAndRoom) → AreHeld len w slots ws → record { rows = map (bits_in len w ws) slots; room = 64 * w - len } ≡ shown → 0 < length shown.rows → length (get_or shown.rows 0 []) ≡ len
first_there len w slots ws shown h is some = row_size len w slots ws shown 0 (get_or slots 0 0) h is (row_there len w slots ws shown 0 is some) (first_read slots (row_there len w slots ws shown 0 is some))

pub place_at_most : (len w at : ℕ) (slots ws : List ℕ) (shown : RowsAndRoom) → AreHeld len w slots ws → record { rows = map (bits_in len w ws) slots; room = 64 * w - len } ≡ shown → 0 < length shown.rows
    → All (λ (row : List Bool). at ≤ length row) shown.rows → at ≤ len
place_at_most len w at slots ws shown h is some all = omega (arith, all 0 [] some, first_there len w slots ws shown h is some)

pub place_below : (len w at : ℕ) (slots ws : List ℕ) (shown : RowsAndRoom) → AreHeld len w slots ws → record { rows = map (bits_in len w ws) slots; room = 64 * w - len } ≡ shown → 0 < length shown.rows
    → All (λ (row : List Bool). at < length row) shown.rows → at < len
place_below len w at slots ws shown h is some all = omega (arith, all 0 [] some, first_there len w slots ws shown h is some)

-- ---- two rows without a bit

pub cleared_row : (w n slot : ℕ) → slot < n → words_in w (replicate (n * w) 0) slot ≡ replicate w 0
cleared_row w n slot lt =
    let o : slot * w + w ≤ n * w = slots_in_order w slot n lt in
    ap (take w) (drop-replicate (slot * w) (n * w) 0) ∙ take-replicate w (n * w - slot * w) 0 (omega (arith, o))

pub cleared_held : (w : ℕ) (slots : List ℕ) → w < 2 ^ 58 → AreFirstTwo slots → AreHeld 0 w slots (replicate (2 * w) 0)
cleared_held w slots few h = record {
  covers = omega arith;
  few = few;
  counted = omega (arith, h.two);
  wide = length-replicate (2 * w) 0 ∙ ap (λ n. n * w) (sym h.two);
  below = (let P : ℕ → Type 0 = λ n. AreBelow n slots in subst P (sym h.two) h.below);
  apart = h.apart;
  padded = λ slot lt. (let P : List ℕ → Type 0 = λ row. IsPadded row 0 in subst P (sym (cleared_row w 2 slot (omega (arith, lt, h.two)))) (all_zeros w));
}

pub cleared_shown : (w : ℕ) (slots ws : List ℕ) → length slots ≡ 2 → map (bits_in 0 w ws) slots ≡ [] ∷ [] ∷ []
cleared_shown w [] ws two = absurd (omega arith)
cleared_shown w (s ∷ []) ws two = absurd (omega arith)
cleared_shown w (s ∷ t ∷ []) ws two = refl
cleared_shown w (s ∷ t ∷ u ∷ ss) ws two = absurd (omega arith)

pub cleared_room : (len w : ℕ) (slots ws : List ℕ) (shown : RowsAndRoom) → AreHeld len w slots ws → record { rows = map (bits_in len w ws) slots; room = 64 * w - len } ≡ shown → 0 < length shown.rows
    → 64 * w - 0 ≡ shown.room + length (get_or shown.rows 0 [])
cleared_room len w slots ws shown h is some =
    let room : 64 * w - len ≡ shown.room = ap (λ (r : RowsAndRoom). r.room) is in
    omega (arith, room, first_there len w slots ws shown h is some, h.covers)

-- in twice as many words at least as many bits go in as there are
pub doubled_room : (len width twice : ℕ) → twice ≡ 2 * width → len ≤ 64 * width → len ≤ 64 * twice - len
doubled_room len width twice is full = omega (arith, full, is)
