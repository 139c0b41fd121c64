-- Rows of one length in one list of words: a row written, moved or taken out, and what that leaves of the others.
use Rattle.std.proofs.Common.{append_assoc, ◌≡◌, ◌≢◌, inl, inr, ℕ, suc, ◌+◌, ◌-◌, ◌*◌, ◌^◌, ◌<◌, ◌≤◌, Bool, false, List, [], ◌++◌, length, take, drop, get_or, refl, sym, ◌∙◌, ap, arith, subst, map, zero, ◌∷◌, append-nil, ◌/◌, ◌%◌}
use Rattle.std.proofs.Math.ListN.{set}
use Rattle.std.proofs.Math.Seq.{take-set-lt}
use Rattle.std.proofs.lemmas.Nat.{mul-le}
use Rattle.std.proofs.lemmas.Bool.{cases_lt, cases_eq}
use Rattle.std.proofs.lemmas.List.{get_or_default, length-take-le, length-drop, length-set, length-append, get_or-take, get_or-drop, get_or-set_other, same_lists, drop-set-add, get_or_append_left, get_or-append_right, take_at, drop_at, get_or-map, length-map, take-append-le, drop-append-le, drop-drop, take-append-drop, take-take, drop-take, nil_from_length, take_all}
use Rattle.std.specs.Int.{div_ceil}
use Rattle.std.proofs.lemmas.List.Elements.{All-same, All-take}
use Rattle.std.specs.List.{concat}
use Rattle.bits.specs.steps.Packing.{all_bits, IsPacked, word_bits}
use Rattle.bits.specs.steps.Held.{words_in, bits_in, IsPadded, AreHeld, Writes}
use Rattle.bits.specs.Rows.{RowsAndRoom}
use Rattle.bits.specs.steps.StoredRows.{IsRowChanged}
use Rattle.bits.proofs.laws.BitLaws.{length-all_bits, all_bits-cut}
use Rattle.bits.proofs.laws.RowLaws.{front_size, set_whole}
use Rattle.bits.proofs.laws.SlotLaws.{below_at}

-- ---- Rows of equally many bits in one list of words: what a change of one row leaves of the others.

-- a slot's words end where the next slot's begin
pub slots_in_order : (w s t : ℕ) → s < t → s * w + w ≤ t * w
slots_in_order w s t lt =
    let le : suc s * w ≤ t * w = mul-le (suc s) w t w lt (omega arith) in
    let more : suc s * w ≡ s * w + w = omega arith in
    omega arith

pub length-words_in : (w n s : ℕ) (ws : List ℕ) → length ws ≡ n * w → s < n → length (words_in w ws s) ≡ w
length-words_in w n s ws size lt =
    let le : s * w + w ≤ n * w = slots_in_order w s n lt in
    length-take-le w (drop (s * w) ws) (omega (arith, length-drop (s * w) ws))

pub word_in : (w s i d : ℕ) (ws : List ℕ) → i < w → get_or (words_in w ws s) i d ≡ get_or ws (s * w + i) d
word_in w s i d ws lt = get_or-take w (drop (s * w) ws) i d lt ∙ get_or-drop (s * w) ws i d

-- slots agree where their words do
agree : (w n m s t : ℕ) (us ws : List ℕ) → length us ≡ m * w → length ws ≡ n * w → s < m → t < n
    → ((i d : ℕ) → i < w → get_or us (s * w + i) d ≡ get_or ws (t * w + i) d) → words_in w us s ≡ words_in w ws t
agree w n m s t us ws a b lt lt' e =
    let x : length (words_in w us s) ≡ w = length-words_in w m s us a lt in
    let y : length (words_in w ws t) ≡ w = length-words_in w n t ws b lt' in
    same_lists (words_in w us s) (words_in w ws t) (x ∙ sym y) (λ i d below.
    let in' : i < w = omega (arith, x, below) in
    word_in w s i d us in' ∙ e i d in' ∙ sym (word_in w t i d ws in'))

-- ---- one word written

pub word_set_here : (w s i v : ℕ) (ws : List ℕ) → i < w → words_in w (set ws (s * w + i) v) s ≡ set (words_in w ws s) i v
word_set_here w s i v ws lt = ap (λ (us : List ℕ). take w us) (drop-set-add (s * w) ws i v) ∙ take-set-lt w (drop (s * w) ws) i v lt

pub word_set_other : (w n s t i v : ℕ) (ws : List ℕ) → length ws ≡ n * w → s < n → t < n → t ≢ s → i < w → words_in w (set ws (s * w + i) v) t ≡ words_in w ws t
word_set_other w n s t i v ws size in' lt ne small =
    agree w n n t t (set ws (s * w + i) v) ws (length-set ws (s * w + i) v ∙ size) size lt lt (λ j d below.
    get_or-set_other ws (s * w + i) (t * w + j) v d (elim (cases_lt t s) [
      | inl less ↦ (let o = slots_in_order w t s less in λ e. absurd (omega (arith, o, e, below)))
      | inr more ↦ (let more' : s < t = omega (arith, more, ne) in let o = slots_in_order w s t more' in λ e. absurd (omega (arith, o, e, small)))
    ]))

-- ---- rows as they are held

pub covers_row : (len w : ℕ) (slots ws : List ℕ) (s : ℕ) → AreHeld len w slots ws → s < length slots → len ≤ 64 * length (words_in w ws s)
covers_row len w slots ws s h lt = omega (arith, h.covers, length-words_in w (length slots) s ws h.wide lt)

-- a slot as it is read
pub slot_read : (slots : List ℕ) (k s : ℕ) → k < length slots → s ≡ get_or slots k 0 → s ≡ get_or slots k s
slot_read slots k s lt is = is ∙ get_or_default slots k 0 s lt

pub slot_below : (len w : ℕ) (slots ws : List ℕ) (k s : ℕ) → AreHeld len w slots ws → k < length slots → s ≡ get_or slots k s → s < length slots
slot_below len w slots ws k s h lt is = let P : ℕ → Type 0 = λ x. x < length slots in subst P (sym is) (below_at (length slots) slots k s h.below lt)

pub shown_at : (len w : ℕ) (slots ws : List ℕ) (k s : ℕ) (e : List Bool) → k < length slots → s ≡ get_or slots k s → get_or (map (bits_in len w ws) slots) k e ≡ bits_in len w ws s
shown_at len w slots ws k s e lt is = get_or-map (bits_in len w ws) slots k s e lt ∙ ap (bits_in len w ws) (sym is)

-- ---- what a call asks of a row, asked of the slots

pub row_there : (len w : ℕ) (slots ws : List ℕ) (shown : RowsAndRoom) (k : ℕ) → record { rows = map (bits_in len w ws) slots; room = 64 * w - len } ≡ shown → k < length shown.rows → k < length slots
row_there len w slots ws shown k is lt =
    let n : length (map (bits_in len w ws) slots) ≡ length shown.rows = ap (λ (r : RowsAndRoom). length r.rows) is in
    omega (arith, n, length-map slots (bits_in len w ws))

pub bit_there : (len w : ℕ) (slots ws : List ℕ) (shown : RowsAndRoom) (k at s : ℕ) → AreHeld len w slots ws → record { rows = map (bits_in len w ws) slots; room = 64 * w - len } ≡ shown → k < length slots
    → s ≡ get_or slots k s → at < length (get_or shown.rows k []) → at < len
bit_there len w slots ws shown k at s h is lt slot in' =
    let below : s < length slots = slot_below len w slots ws k s h lt slot in
    let same : length (get_or shown.rows k []) ≡ len =
    sym (ap (λ (r : RowsAndRoom). length (get_or r.rows k [])) is) ∙ ap (λ (row : List Bool). length row) (shown_at len w slots ws k s [] lt slot)
    ∙ front_size (words_in w ws s) len (covers_row len w slots ws s h below) in
    omega arith

-- ---- a row read

front_words : (row : List ℕ) (used len : ℕ) → len ≤ 64 * used → used ≤ length row → take len (all_bits (take used row)) ≡ take len (all_bits row)
front_words row used len le lt =
    let n : length (all_bits (take used row)) ≡ 64 * used = length-all_bits (take used row) ∙ ap (λ k. 64 * k) (length-take-le used row lt) in
    let le' : len ≤ length (all_bits (take used row)) = omega arith in
    sym (ap (λ (bs : List Bool). take len bs) (all_bits-cut row used) ∙ take-append-le len (all_bits (take used row)) (all_bits (drop used row)) le')

front_packed : (row : List ℕ) (used len : ℕ) → len ≤ 64 * used → 64 * used < len + 64 → used < 2 ^ 58 → used ≤ length row → IsPadded row len → IsPacked (take used row) len
front_packed row used len le tight few lt h =
    let n : length (take used row) ≡ used = length-take-le used row lt in
    let m : length (all_bits (take used row)) ≡ 64 * used = length-all_bits (take used row) ∙ ap (λ k. 64 * k) n in
    let le' : len ≤ length (all_bits (take used row)) = omega arith in
    let cut : drop len (all_bits row) ≡ drop len (all_bits (take used row)) ++ all_bits (drop used row) =
    ap (λ (bs : List Bool). drop len bs) (all_bits-cut row used) ∙ drop-append-le len (all_bits (take used row)) (all_bits (drop used row)) le' in
    let k : ℕ = length (drop len (all_bits (take used row))) in
    let Off : Bool → Type 0 = λ b. b ≡ false in
    record {
      covers = omega arith;
      tight = omega arith;
      few = omega arith;
      padded = All-same Off (drop len (all_bits (take used row))) (take k (drop len (all_bits row)))
          (sym (ap (λ (bs : List Bool). take k bs) cut ∙ take_at (drop len (all_bits (take used row))) (all_bits (drop used row)) k refl)) (All-take Off k (drop len (all_bits row)) h);
    }

pub lent_packed : (len w : ℕ) (slots ws : List ℕ) (k s used : ℕ) → AreHeld len w slots ws → k < length slots → s ≡ get_or slots k s → used ≡ div_ceil len 64 → IsPacked (take used (words_in w ws s)) len
lent_packed len w slots ws k s used h lt slot is =
    let below : s < length slots = slot_below len w slots ws k s h lt slot in
    let n : length (words_in w ws s) ≡ w = length-words_in w (length slots) s ws h.wide below in
    let le : used ≤ w = omega (arith, h.covers) in
    front_packed (words_in w ws s) used len (omega arith) (omega arith) (omega (arith, h.few)) (omega arith) (h.padded s below)

pub lent_bits : (len w : ℕ) (slots ws : List ℕ) (k s used : ℕ) → AreHeld len w slots ws → k < length slots → s ≡ get_or slots k s → used ≡ div_ceil len 64
    → take len (all_bits (take used (words_in w ws s))) ≡ get_or (map (bits_in len w ws) slots) k []
lent_bits len w slots ws k s used h lt slot is =
    let below : s < length slots = slot_below len w slots ws k s h lt slot in
    let n : length (words_in w ws s) ≡ w = length-words_in w (length slots) s ws h.wide below in
    let le : used ≤ w = omega (arith, h.covers) in
    front_words (words_in w ws s) used len (omega arith) (omega arith) ∙ sym (shown_at len w slots ws k s [] lt slot)

-- a row has so many bits
pub row_size : (len w : ℕ) (slots ws : List ℕ) (shown : RowsAndRoom) (k s : ℕ) → AreHeld len w slots ws → record { rows = map (bits_in len w ws) slots; room = 64 * w - len } ≡ shown → k < length slots
    → s ≡ get_or slots k s → length (get_or shown.rows k []) ≡ len
row_size len w slots ws shown k s h is lt slot =
    sym (ap (λ (r : RowsAndRoom). length (get_or r.rows k [])) is) ∙ ap (λ (row : List Bool). length row) (shown_at len w slots ws k s [] lt slot)
    ∙ front_size (words_in w ws s) len (covers_row len w slots ws s h (slot_below len w slots ws k s h lt slot))

-- ---- a row written over another

-- us has another row's words in slot s
abbrev pub IsRowWritten : ℕ → ℕ → List ℕ → List ℕ → List ℕ → Type 0
IsRowWritten w s row ws us = us ≡ (take (s * w) ws ++ row) ++ drop (s * w + w) ws

front_length : (w n s : ℕ) (row ws : List ℕ) → length ws ≡ n * w → s < n → length row ≡ w → length (take (s * w) ws ++ row) ≡ s * w + w
front_length w n s row ws size lt long =
    let o : s * w + w ≤ n * w = slots_in_order w s n lt in
    length-append (take (s * w) ws) row ∙ ap (λ m. m + length row) (length-take-le (s * w) ws (omega arith)) ∙ ap (λ m. s * w + m) long

pub row_written_size : (w n s : ℕ) (row ws us : List ℕ) → length ws ≡ n * w → s < n → length row ≡ w → IsRowWritten w s row ws us → length us ≡ length ws
row_written_size w n s row ws us size lt long h =
    let o : s * w + w ≤ n * w = slots_in_order w s n lt in
    let n' = front_length w n s row ws size lt long in
    omega (arith, ap (λ (vs : List ℕ). length vs) h, length-append (take (s * w) ws ++ row) (drop (s * w + w) ws), length-drop (s * w + w) ws)

pub row_written_here : (w n s : ℕ) (row ws us : List ℕ) → length ws ≡ n * w → s < n → length row ≡ w → IsRowWritten w s row ws us → words_in w us s ≡ row
row_written_here w n s row ws us size lt long h =
    let o : s * w + w ≤ n * w = slots_in_order w s n lt in
    let low : length (take (s * w) ws) ≡ s * w = length-take-le (s * w) ws (omega arith) in
    let rest : List ℕ = drop (s * w + w) ws in
    ap (λ (vs : List ℕ). words_in w vs s) (h ∙ append_assoc (take (s * w) ws) row rest)
    ∙ ap (λ (vs : List ℕ). take w vs) (drop_at (take (s * w) ws) (row ++ rest) (s * w) low) ∙ take_at row rest w long

pub row_written_other : (w n s t : ℕ) (row ws us : List ℕ) → length ws ≡ n * w → s < n → t < n → length row ≡ w → t ≢ s → IsRowWritten w s row ws us → words_in w us t ≡ words_in w ws t
row_written_other w n s t row ws us size lt lt' long ne h =
    let o : s * w + w ≤ n * w = slots_in_order w s n lt in
    let low : length (take (s * w) ws) ≡ s * w = length-take-le (s * w) ws (omega arith) in
    let rest : List ℕ = drop (s * w + w) ws in
    agree w n n t t us ws (row_written_size w n s row ws us size lt long h ∙ size) size lt' lt' (λ i d below.
    ap (λ (vs : List ℕ). get_or vs (t * w + i) d) h
    ∙ elim (cases_lt t s) [
      | inl less ↦ (
          let o' = slots_in_order w t s less in
          let in1 : t * w + i < length (take (s * w) ws) = omega (arith, low, o', below) in
          let in2 : t * w + i < length (take (s * w) ws ++ row) = omega (arith, length-append (take (s * w) ws) row, in1) in
          let in3 : t * w + i < s * w = omega (arith, o', below) in
          get_or_append_left (take (s * w) ws ++ row) rest d (t * w + i) in2 ∙ get_or_append_left (take (s * w) ws) row d (t * w + i) in1 ∙ get_or-take (s * w) ws (t * w + i) d in3)
      | inr more ↦ (
          let more' : s < t = omega (arith, more, ne) in
          let o' = slots_in_order w s t more' in
          let past : s * w + w ≤ t * w + i = omega (arith, o') in
          let back : s * w + w + (t * w + i - (s * w + w)) ≡ t * w + i = omega (arith, past) in
          get_or-append_right (take (s * w) ws ++ row) rest (s * w + w) (t * w + i) d (front_length w n s row ws size lt long) past
          ∙ get_or-drop (s * w + w) ws (t * w + i - (s * w + w)) d ∙ ap (λ m. get_or ws m d) back)
    ])

-- ---- each row changed, as far as slot i

pub record Changed (R : List ℕ → List ℕ → Type 0) (w n : ℕ) (old now : List ℕ) (i : ℕ) : Type 0 where
  pub as_long : length now ≡ length old
  pub done : (t : ℕ) → t < i → R (words_in w old t) (words_in w now t)
  pub rest : (t : ℕ) → i ≤ t → t < n → words_in w now t ≡ words_in w old t

-- row i changed, and no other
pub changed_by : (R : List ℕ → List ℕ → Type 0) (w n : ℕ) (old now new row : List ℕ) (i : ℕ) → Changed R w n old now i → i < n → length new ≡ length now → R (words_in w now i) row
    → words_in w new i ≡ row → ((t : ℕ) → t < n → t ≢ i → words_in w new t ≡ words_in w now t) → Changed R w n old new (i + 1)
changed_by R w n old now new row i h lt same r here others =
    let P : List ℕ → Type 0 = λ vs. R (words_in w old i) vs in
    let Q : List ℕ → Type 0 = λ vs. R vs row in
    record {
      as_long = same ∙ h.as_long;
      done = λ t lt'. elim (cases_eq t i) [
        | inl e ↦ (
            let changed : R (words_in w old i) (words_in w new i) = subst P (sym here) (subst Q (h.rest i (omega arith) lt) r) in
            let T : ℕ → Type 0 = λ x. R (words_in w old x) (words_in w new x) in subst T (sym e) changed)
        | inr ne ↦ (
            let below : t < i = omega (arith, lt', ne) in
            let U : List ℕ → Type 0 = λ vs. R (words_in w old t) vs in
            subst U (sym (others t (omega (arith, below, lt)) ne)) (h.done t below))
      ];
      rest = λ t ge lt'. (let ne : t ≢ i = λ e. absurd (omega (arith, e, ge)) in others t lt' ne ∙ h.rest t (omega (arith, ge)) lt');
    }

-- the words between a slot's first and the next slot's
pub whole_row : (w s : ℕ) (ws : List ℕ) → take (s * w + w - s * w) (drop (s * w) ws) ≡ words_in w ws s
whole_row w s ws = let e : s * w + w - s * w ≡ w = omega arith in ap (λ m. take m (drop (s * w) ws)) e

-- ---- a row that a call wrote, in the vector of all words

pub row_lent_size : (w n s : ℕ) (ws now row : List ℕ) → length ws ≡ n * w → s < n → now ≡ take (s * w + w - s * w) (drop (s * w) ws) → length row ≡ length now → length row ≡ w
row_lent_size w n s ws now row size lt is same = same ∙ ap (λ (vs : List ℕ). length vs) (is ∙ whole_row w s ws) ∙ length-words_in w n s ws size lt

pub slice_written : (w n s l : ℕ) (row ws : List ℕ) → length ws ≡ n * w → s < n → length row ≡ w → l ≡ length ws
    → IsRowWritten w s row ws (take l (take (s * w) ws ++ (row ++ drop (length row) (drop (s * w) ws)) ++ drop (length (take (s * w) ws ++ (row ++ drop (length row) (drop (s * w) ws)))) ws))
slice_written w n s l row ws size lt long e =
    let whole : List ℕ = take (s * w) ws ++ (row ++ drop (length row) (drop (s * w) ws)) in
    let is : whole ≡ (take (s * w) ws ++ row) ++ drop (s * w + w) ws =
    ap (λ m. take (s * w) ws ++ (row ++ drop m (drop (s * w) ws))) long ∙ ap (λ (vs : List ℕ). take (s * w) ws ++ (row ++ vs)) (drop-drop w (s * w) ws)
    ∙ sym (append_assoc (take (s * w) ws) row (drop (s * w + w) ws)) in
    let m : length whole ≡ l = row_written_size w n s row ws whole size lt long is ∙ sym e in
    take_at whole (drop (length whole) ws) l m ∙ is

-- how many bits each row has
pub row_len : (len w : ℕ) (slots ws : List ℕ) (shown : RowsAndRoom) (k : ℕ) → AreHeld len w slots ws → record { rows = map (bits_in len w ws) slots; room = 64 * w - len } ≡ shown → k < length shown.rows → length (get_or shown.rows k []) ≡ len
row_len len w slots ws shown k h v lt =
    let there : k < length slots = row_there len w slots ws shown k v lt in
    row_size len w slots ws shown k (get_or slots k 0) h v there (get_or_default slots k 0 (get_or slots k 0) there)

-- ---- Rows of one length, one after another in a list of words.

-- each row has so many words
abbrev pub AreLong : ℕ → List (List ℕ) → Type 0
AreLong w rows = (s : ℕ) → s < length rows → length (get_or rows s []) ≡ w

long_rest : (w : ℕ) (row : List ℕ) (rows : List (List ℕ)) → AreLong w (row ∷ rows) → AreLong w rows
long_rest w row rows h s lt = h (suc s) (omega arith)

pub length-concat : (w : ℕ) (rows : List (List ℕ)) → AreLong w rows → length (concat rows) ≡ length rows * w
length-concat w [] h = omega arith
length-concat w (row ∷ rows) h =
    let e : suc (length rows) * w ≡ length rows * w + w = omega arith in
    omega (arith, length-append row (concat rows), h 0 (omega arith), length-concat w rows (long_rest w row rows h), e)

pub concat_push : (rows : List (List ℕ)) (row : List ℕ) → concat (rows ++ row ∷ []) ≡ concat rows ++ row
concat_push [] row = append-nil row
concat_push (r ∷ rows) row = ap (λ (ws : List ℕ). r ++ ws) (concat_push rows row) ∙ sym (append_assoc r (concat rows) row)

-- a slot after the first w words is one fewer after them
words_in_rest : (w s : ℕ) (ws : List ℕ) → words_in w (drop w ws) s ≡ words_in w ws (suc s)
words_in_rest w s ws = let e : w + s * w ≡ suc s * w = omega arith in ap (λ (us : List ℕ). take w us) (drop-drop (s * w) w ws ∙ ap (λ k. drop k ws) e)

pub words_in-concat : (w s : ℕ) (rows : List (List ℕ)) → AreLong w rows → s < length rows → words_in w (concat rows) s ≡ get_or rows s []
words_in-concat w s [] h lt = absurd (omega arith)
words_in-concat w zero (row ∷ rows) h lt =
    let e : 0 * w ≡ 0 = omega arith in
    ap (λ k. take w (drop k (row ++ concat rows))) e ∙ take_at row (concat rows) w (h 0 (omega arith))
words_in-concat w (suc s) (row ∷ rows) h lt =
    sym (words_in_rest w s (row ++ concat rows)) ∙ ap (λ (us : List ℕ). words_in w us s) (drop_at row (concat rows) w (h 0 (omega arith))) ∙ words_in-concat w s rows (long_rest w row rows h) (omega arith)

-- words are equal where they are so in each slot
same_words : (w n : ℕ) (us vs : List ℕ) → length us ≡ n * w → length vs ≡ n * w → ((s : ℕ) → s < n → words_in w us s ≡ words_in w vs s) → us ≡ vs
same_words w zero us vs a b same =
    let e : 0 * w ≡ 0 = omega arith in
    nil_from_length us (a ∙ e) ∙ sym (nil_from_length vs (b ∙ e))
same_words w (suc n) us vs a b same =
    let e : 0 * w ≡ 0 = omega arith in
    let more : suc n * w ≡ w + n * w = omega arith in
    let front : take w us ≡ take w vs = ap (λ k. take w (drop k us)) (sym e) ∙ same 0 (omega arith) ∙ ap (λ k. take w (drop k vs)) e in
    let rest : drop w us ≡ drop w vs =
    same_words w n (drop w us) (drop w vs) (omega (arith, length-drop w us)) (omega (arith, length-drop w vs)) (λ s lt. words_in_rest w s us ∙ same (suc s) (omega arith) ∙ sym (words_in_rest w s vs)) in
    sym (take-append-drop w us) ∙ (λ i. front i ++ rest i) ∙ take-append-drop w vs

-- a slot of the first n
pub words_in-take : (w n s : ℕ) (ws : List ℕ) → s < n → words_in w (take (n * w) ws) s ≡ words_in w ws s
words_in-take w n s ws lt =
    let o : s * w + w ≤ n * w = slots_in_order w s n lt in
    let e : s * w + (n * w - s * w) ≡ n * w = omega (arith, o) in
    ap (λ k. take w (drop (s * w) (take k ws))) (sym e) ∙ ap (λ (us : List ℕ). take w us) (drop-take (s * w) (n * w - s * w) ws) ∙ take-take w (n * w - s * w) (drop (s * w) ws) (omega (arith, o))

-- a slot of words that others follow
pub words_in-append : (w n s : ℕ) (ws us : List ℕ) → length ws ≡ n * w → s < n → words_in w (ws ++ us) s ≡ words_in w ws s
words_in-append w n s ws us size lt =
    let o : s * w + w ≤ n * w = slots_in_order w s n lt in
    ap (λ (vs : List ℕ). take w vs) (drop-append-le (s * w) ws us (omega (arith, o))) ∙ take-append-le w (drop (s * w) ws) us (omega (arith, o, length-drop (s * w) ws))

-- the slot of words that follow others
pub words_in_push : (w n : ℕ) (ws row : List ℕ) → length ws ≡ n * w → length row ≡ w → words_in w (ws ++ row) n ≡ row
words_in_push w n ws row size long = ap (λ (vs : List ℕ). take w vs) (drop_at ws row (n * w) size) ∙ take_all w row (omega arith)

-- words cut off after a slot, so many of the first ones left
pub cut_more : (w n m : ℕ) (first now new : List ℕ) → m ≤ n → n * w ≤ length first → now ≡ take (n * w) first → length new ≡ m * w → ((s : ℕ) → s < m → words_in w new s ≡ words_in w now s) → new ≡ take (m * w) first
cut_more w n m first now new le long is size same =
    let o : m * w ≤ n * w = mul-le m w n w le (omega arith) in
    same_words w m new (take (m * w) first) size (length-take-le (m * w) first (omega (arith, o, long))) (λ s lt.
    same s lt ∙ ap (λ (ws : List ℕ). words_in w ws s) is ∙ words_in-take w n s first (omega (arith, lt, le)) ∙ sym (words_in-take w m s first lt))

-- ---- Rows whose words are all stored: one written, or moved, or taken out.

pub bit_written_in : (w n i at v word : ℕ) (b : Bool) (ws : List ℕ) → length ws ≡ n * w → i < n → at < 64 * w → word ≡ get_or ws (i * w + at / 64) word → word_bits 64 v ≡ set (word_bits 64 word) (at % 64) b
    → IsRowChanged (Writes at b) w n i ws (set ws (i * w + at / 64) v)
bit_written_in w n i at v word b ws size lt in' read bits =
    let q : at / 64 < w = omega arith in
    let long : length (words_in w ws i) ≡ w = length-words_in w n i ws size lt in
    record {
      as_long = length-set ws (i * w + at / 64) v;
      changed = ap all_bits (word_set_here w i (at / 64) v ws q) ∙ set_whole (words_in w ws i) at v word b (omega arith) (read ∙ sym (word_in w i (at / 64) word ws q)) bits;
      others = λ j below ne. word_set_other w n i j (at / 64) v ws size lt below ne q;
    }

pub row_changed_by : (R : List ℕ → List ℕ → Type 0) (w n i : ℕ) (row ws us : List ℕ) → length ws ≡ n * w → i < n → length row ≡ w → IsRowWritten w i row ws us → R (words_in w ws i) row → IsRowChanged R w n i ws us
row_changed_by R w n i row ws us size lt long is r =
    let P : List ℕ → Type 0 = λ vs. R (words_in w ws i) vs in
    record {
      as_long = row_written_size w n i row ws us size lt long is;
      changed = subst P (sym (row_written_here w n i row ws us size lt long is)) r;
      others = λ j below ne. row_written_other w n i j row ws us size lt below long ne is;
    }

-- the last row has come in the place of one
pub record IsMovedIn (w last i : ℕ) (ws us : List ℕ) : Type 0 where
  pub long : length us ≡ last * w
  pub moved : i < last → words_in w us i ≡ words_in w ws last
  pub others : (j : ℕ) → j < last → j ≢ i → words_in w us j ≡ words_in w ws j

pub last_moved_in : (w last i : ℕ) (ws us : List ℕ) → length ws ≡ (last + 1) * w → i < last + 1 → IsRowWritten w i (words_in w ws last) ws us → IsMovedIn w last i ws (take (last * w) us)
last_moved_in w last i ws us size lt is =
    let n : ℕ = last + 1 in
    let long : length (words_in w ws last) ≡ w = length-words_in w n last ws size (omega arith) in
    let more : n * w ≡ last * w + w = omega arith in
    record {
      long = length-take-le (last * w) us (omega (arith, row_written_size w n i (words_in w ws last) ws us size lt long is));
      moved = λ below. words_in-take w last i us below ∙ row_written_here w n i (words_in w ws last) ws us size lt long is;
      others = λ j below ne. words_in-take w last j us below ∙ row_written_other w n i j (words_in w ws last) ws us size lt (omega arith) long ne is;
    }
