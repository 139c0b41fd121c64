-- Rows of which a part or all words are stored: each row's words, and what a change of one row or a call on its slot leaves of the others.
use Rattle.std.proofs.Common.{◌≡◌, ◌≢◌, inl, inr, ℕ, zero, suc, ◌+◌, ◌-◌, ◌*◌, ◌<◌, ◌≤◌, List, [], ◌∷◌, ◌++◌, length, get_or, map, refl, sym, ◌∙◌, ap, arith, subst, length-append}
use Rattle.std.specs.Prelude.{slice_index_or}
use Rattle.std.proofs.Math.ListN.{set}
use Rattle.std.proofs.lemmas.Bool.{cases_lt, cases_eq}
use Rattle.std.proofs.lemmas.List.{length-set, length-map, get_or-map, get_or-set_same, get_or-set_other, get_or_append_left, get_or_push, set-get_or, length_push, get_or_read}
use Rattle.bits.specs.declared.whole_rows.Kept.{Kept}
use Rattle.bits.specs.declared.row_part.RowPart.{RowPart}
use Rattle.bits.specs.steps.Held.{words_in, WordsInSlots, IsSlotChanged}
use Rattle.bits.specs.steps.StoredRows.{part_row, IsWithin, row_of, all_words, kept_at, part_count, parts, IsKept, IsOwned, AreStored, IsRowChanged}
use Rattle.bits.specs.declared.whole_rows.Kept.TheVariants as kept
use Rattle.bits.proofs.laws.PartLaws.{padded_size}
use Rattle.bits.proofs.laws.RowsLaws.{length-words_in, slots_in_order, AreLong, length-concat, words_in-concat, words_in-append, words_in_push}

-- ---- Rows of which a part or all words are stored: each row's words, and what a change of one row leaves of the others.

-- ---- the words of a row

kept_size : (w s : ℕ) (ws os : List ℕ) (k : Kept) → length ws ≡ length os * w → IsKept w os s k → length (row_of w ws k) ≡ w
kept_size w s ws os (kept.Part part) long is = omega (arith, padded_size part.start (w - (part.start + 4)) part.words, is.four, is.ends)
kept_size w s ws os (kept.Whole i) long is = length-words_in w (length os) i ws long is.0

pub row_size : (w s : ℕ) (ks : List Kept) (ws os : List ℕ) → AreStored w ks ws os → s < length ks → length (row_of w ws (kept_at ks s)) ≡ w
row_size w s ks ws os h lt = kept_size w s ws os (kept_at ks s) h.long (h.each s lt)

row_at : (w s : ℕ) (ks : List Kept) (ws : List ℕ) → s < length ks → get_or (map (row_of w ws) ks) s [] ≡ row_of w ws (kept_at ks s)
row_at w s ks ws lt = get_or-map (row_of w ws) ks s (kept.Whole 0) [] lt

rows_long : (w : ℕ) (ks : List Kept) (ws os : List ℕ) → AreStored w ks ws os → AreLong w (map (row_of w ws) ks)
rows_long w ks ws os h s lt =
    let in' : s < length ks = omega (arith, lt, length-map ks (row_of w ws)) in
    ap (λ (row : List ℕ). length row) (row_at w s ks ws in') ∙ row_size w s ks ws os h in'

pub shown_size : (w : ℕ) (ks : List Kept) (ws os : List ℕ) → AreStored w ks ws os → length (all_words w ws ks) ≡ length ks * w
shown_size w ks ws os h = length-concat w (map (row_of w ws) ks) (rows_long w ks ws os h) ∙ ap (λ n. n * w) (length-map ks (row_of w ws))

pub shown_at : (w s : ℕ) (ks : List Kept) (ws os : List ℕ) → AreStored w ks ws os → s < length ks → words_in w (all_words w ws ks) s ≡ row_of w ws (kept_at ks s)
shown_at w s ks ws os h lt =
    words_in-concat w s (map (row_of w ws) ks) (rows_long w ks ws os h) (omega (arith, lt, length-map ks (row_of w ws))) ∙ row_at w s ks ws lt

-- a slot with a whole row of its own
pub kept_whole : (w s i : ℕ) (ks : List Kept) (ws os : List ℕ) → AreStored w ks ws os → s < length ks → kept_at ks s ≡ kept.Whole i → (i < length os) × (get_or os i 0 ≡ s)
kept_whole w s i ks ws os h lt is = let P : Kept → Type 0 = λ k. IsKept w os s k in subst P is (h.each s lt)

-- a slot of whose row a part is kept
pub kept_part : (w s : ℕ) (ks : List Kept) (ws os : List ℕ) (p : RowPart) → AreStored w ks ws os → s < length ks → kept_at ks s ≡ kept.Part p → IsWithin w p
kept_part w s ks ws os p h lt is = let P : Kept → Type 0 = λ k. IsKept w os s k in subst P is (h.each s lt)

-- the words of a whole row are among all
pub whole_within : (w s i : ℕ) (ks : List Kept) (ws os : List ℕ) → AreStored w ks ws os → s < length ks → kept_at ks s ≡ kept.Whole i → i * w + w ≤ length ws
whole_within w s i ks ws os h lt is = omega (arith, slots_in_order w i (length os) (kept_whole w s i ks ws os h lt is).0, h.long)

-- ---- one row changed

abbrev pub shown : ℕ → List ℕ → List Kept → WordsInSlots
shown w ws ks = record { count = length ks; width = w; words = all_words w ws ks }

-- each slot but one has the words that it had
abbrev pub AreOthers : ℕ → ℕ → List Kept → List ℕ → List Kept → List ℕ → Type 0
AreOthers w s ks ws ks' ws' = (t : ℕ) → t < length ks → t ≢ s → row_of w ws' (kept_at ks' t) ≡ row_of w ws (kept_at ks t)

slot_changed : (R : List ℕ → List ℕ → Type 0) (w s : ℕ) (ks ks' : List Kept) (ws ws' os os' : List ℕ) → AreStored w ks ws os → AreStored w ks' ws' os' → length ks' ≡ length ks → s < length ks
    → R (row_of w ws (kept_at ks s)) (row_of w ws' (kept_at ks' s)) → AreOthers w s ks ws ks' ws' → IsSlotChanged R s (shown w ws ks) (shown w ws' ks')
slot_changed R w s ks ks' ws ws' os os' h h' same lt r others =
    let lt' : s < length ks' = omega arith in
    let P : List ℕ → Type 0 = λ row. R row (row_of w ws' (kept_at ks' s)) in
    let Q : List ℕ → Type 0 = λ row. R (words_in w (all_words w ws ks) s) row in
    record {
      count = same;
      width = refl;
      as_long = shown_size w ks' ws' os' h' ∙ ap (λ n. n * w) same ∙ sym (shown_size w ks ws os h);
      changed = subst Q (sym (shown_at w s ks' ws' os' h' lt')) (subst P (sym (shown_at w s ks ws os h lt)) r);
      others = λ t below ne. shown_at w t ks' ws' os' h' (omega arith) ∙ others t below ne ∙ sym (shown_at w t ks ws os h below);
    }

pub slot_there : (w s : ℕ) (ks : List Kept) (ws : List ℕ) (v : WordsInSlots) → shown w ws ks ≡ v → s < v.count → s < length ks
slot_there w s ks ws v is lt = omega (arith, lt, ap (λ (u : WordsInSlots). u.count) is)

pub changed_as_seen : (R : List ℕ → List ℕ → Type 0) (s : ℕ) (old v new : WordsInSlots) → old ≡ v → IsSlotChanged R s old new → IsSlotChanged R s v new
changed_as_seen R s old v new is h = let P : WordsInSlots → Type 0 = λ u. IsSlotChanged R s u new in subst P is h

pub room_stays : (w n m room more : ℕ) → m ≡ n → n * w ≤ room → room ≤ more → m * w ≤ more
room_stays w n m room more same le up = let P : ℕ → Type 0 = λ k. k * w ≤ more in subst P (sym same) (omega (arith, le, up))

-- a row that isn't whole yet has room among the whole ones
pub room_for_part : (w s room : ℕ) (ks : List Kept) (ws os : List ℕ) (p : RowPart) → AreStored w ks ws os → s < length ks → kept_at ks s ≡ kept.Part p → length ks * w ≤ room → (length ws + w ≤ room) × (length os < length ks)
room_for_part w s room ks ws os p h lt is le =
    let fewer : length os < length ks = omega (arith, h.counted, parts_there ks s lt, ap part_count is) in
    let o : length os * w + w ≤ length ks * w = slots_in_order w (length os) (length ks) fewer in
    (omega (arith, h.long, o, le), fewer)
  where
    parts_there : (ks : List Kept) (s : ℕ) → s < length ks → part_count (kept_at ks s) ≤ parts ks
    parts_there [] s lt = absurd (omega arith)
    parts_there (k ∷ ks) zero lt = omega arith
    parts_there (k ∷ ks) (suc s) lt = omega (arith, parts_there ks s (omega arith))

-- a row that is kept as it was
pub set_same : (ks : List Kept) (s : ℕ) (k : Kept) → kept_at ks s ≡ k → set ks s k ≡ ks
set_same ks s k is = ap (λ j. set ks s j) (sym is) ∙ set-get_or ks s (kept.Whole 0)

-- ---- how rows are kept, where one is set

pub part_no_whole : (ks : List Kept) (s t i : ℕ) (p : RowPart) → kept_at ks s ≡ kept.Part p → kept_at ks t ≡ kept.Whole i → t ≢ s
part_no_whole ks s t i p a b e = let f : kept_at ks t ≡ kept_at ks s = ap (λ u. kept_at ks u) e in cc

pub set_here : (ks : List Kept) (s : ℕ) (k : Kept) → s < length ks → kept_at (set ks s k) s ≡ k
set_here ks s k lt = get_or-set_same ks s k (kept.Whole 0) lt

pub set_there : (ks : List Kept) (s t : ℕ) (k : Kept) → t ≢ s → kept_at (set ks s k) t ≡ kept_at ks t
set_there ks s t k ne = get_or-set_other ks s t k (kept.Whole 0) ne

pub parts_set : (ks : List Kept) (s : ℕ) (k : Kept) → s < length ks → parts (set ks s k) + part_count (kept_at ks s) ≡ parts ks + part_count k
parts_set [] s k lt = absurd (omega arith)
parts_set (j ∷ ks) zero k lt = omega arith
parts_set (j ∷ ks) (suc s) k lt = omega (arith, parts_set ks s k (omega arith))

pub each_set : (w s : ℕ) (ks : List Kept) (os : List ℕ) (k : Kept) → s < length ks → IsKept w os s k → ((t : ℕ) → t < length ks → t ≢ s → IsKept w os t (kept_at ks t)) → (t : ℕ) → t < length (set ks s k) → IsKept w os t (kept_at (set ks s k) t)
each_set w s ks os k in' here others t lt =
    elim (cases_eq t s) [
      | inl e ↦ (
          let P : ℕ → Type 0 = λ u. IsKept w os u (kept_at (set ks s k) u) in
          let Q : Kept → Type 0 = λ j. IsKept w os s j in
          subst P (sym e) (subst Q (sym (set_here ks s k in')) here))
      | inr ne ↦ (
          let R : Kept → Type 0 = λ j. IsKept w os t j in
          subst R (sym (set_there ks s t k ne)) (others t (omega (arith, lt, length-set ks s k)) ne))
    ]

pub owned_set : (ks : List Kept) (os : List ℕ) (s i : ℕ) (k : Kept) → IsOwned ks os i → get_or os i 0 ≢ s → IsOwned (set ks s k) os i
owned_set ks os s i k h ne = (omega (arith, h.0, length-set ks s k), set_there ks s (get_or os i 0) k ne ∙ h.1)

-- ---- a part changed, or a whole row

pub part_stored : (w s : ℕ) (ks : List Kept) (ws os : List ℕ) (p q : RowPart) → AreStored w ks ws os → s < length ks → kept_at ks s ≡ kept.Part p → IsWithin w q → AreStored w (set ks s (kept.Part q)) ws os
part_stored w s ks ws os p q h lt is within = record {
  least = h.least;
  few = h.few;
  long = h.long;
  each = each_set w s ks os (kept.Part q) lt within (λ t below ne. h.each t below);
  owned = λ i in'. owned_set ks os s i (kept.Part q) (h.owned i in') (part_no_whole ks s (get_or os i 0) i p is (h.owned i in').1);
  counted = omega (arith, h.counted, length-set ks s (kept.Part q), parts_set ks s (kept.Part q) lt, ap part_count is);
}

pub part_changed : (R : List ℕ → List ℕ → Type 0) (w s : ℕ) (ks : List Kept) (ws os : List ℕ) (p q : RowPart) → AreStored w ks ws os → s < length ks → kept_at ks s ≡ kept.Part p → IsWithin w q → R (part_row w p) (part_row w q)
    → IsSlotChanged R s (shown w ws ks) (shown w ws (set ks s (kept.Part q)))
part_changed R w s ks ws os p q h lt is within r =
    let P : Kept → Type 0 = λ k. R (row_of w ws k) (part_row w q) in
    let Q : Kept → Type 0 = λ k. R (row_of w ws (kept_at ks s)) (row_of w ws k) in
    slot_changed R w s ks (set ks s (kept.Part q)) ws ws os os h (part_stored w s ks ws os p q h lt is within) (length-set ks s (kept.Part q)) lt
    (subst Q (sym (set_here ks s (kept.Part q) lt)) (subst P (sym is) r)) (λ t below ne. ap (row_of w ws) (set_there ks s t (kept.Part q) ne))

-- each whole row but one has the words that it had
abbrev pub AreOtherWholes : ℕ → ℕ → ℕ → List ℕ → List ℕ → Type 0
AreOtherWholes w n i ws ws' = (j : ℕ) → j < n → j ≢ i → words_in w ws' j ≡ words_in w ws j

pub whole_stored : (w : ℕ) (ks : List Kept) (ws ws' os : List ℕ) → AreStored w ks ws os → length ws' ≡ length ws → AreStored w ks ws' os
whole_stored w ks ws ws' os h same = record { least = h.least; few = h.few; long = same ∙ h.long; each = h.each; owned = h.owned; counted = h.counted }

other_row : (w n i s t : ℕ) (ws ws' os : List ℕ) (k : Kept) → n ≡ length os → get_or os i 0 ≡ s → t ≢ s → IsKept w os t k → AreOtherWholes w n i ws ws' → row_of w ws' k ≡ row_of w ws k
other_row w n i s t ws ws' os (kept.Part p) count owner ne is others = refl
other_row w n i s t ws ws' os (kept.Whole j) count owner ne is others = others j (omega (arith, is.0)) (λ e. ne (sym is.1 ∙ ap (λ u. get_or os u 0) e ∙ owner))

pub whole_changed : (R : List ℕ → List ℕ → Type 0) (w s i : ℕ) (ks : List Kept) (ws ws' os : List ℕ) → AreStored w ks ws os → s < length ks → kept_at ks s ≡ kept.Whole i → length ws' ≡ length ws → R (words_in w ws i) (words_in w ws' i) → AreOtherWholes w (length os) i ws ws'
    → IsSlotChanged R s (shown w ws ks) (shown w ws' ks)
whole_changed R w s i ks ws ws' os h lt is same r others =
    let P : Kept → Type 0 = λ k. R (row_of w ws k) (row_of w ws' k) in
    let mine = kept_whole w s i ks ws os h lt is in
    slot_changed R w s ks ks ws ws' os os h (whole_stored w ks ws ws' os h same) refl lt (subst P (sym is) r) (λ t below ne. other_row w (length os) i s t ws ws' os (kept_at ks t) refl mine.1 ne (h.each t below) others)

-- ---- a row that becomes whole

pub kept_more : (w s x : ℕ) (os : List ℕ) (k : Kept) → IsKept w os s k → IsKept w (os ++ x ∷ []) s k
kept_more w s x os (kept.Part p) is = is
kept_more w s x os (kept.Whole i) is = (omega (arith, is.0, length_push os x), get_or_append_left os (x ∷ []) 0 i is.0 ∙ is.1)

pub row_more : (w s : ℕ) (ws us os : List ℕ) (k : Kept) → length ws ≡ length os * w → IsKept w os s k → row_of w (ws ++ us) k ≡ row_of w ws k
row_more w s ws us os (kept.Part p) long is = refl
row_more w s ws us os (kept.Whole i) long is = words_in-append w (length os) i ws us long is.0

pub pushed_size : (w n : ℕ) (ws row : List ℕ) (os : List ℕ) (x : ℕ) → length ws ≡ length os * w → length row ≡ w → length (ws ++ row) ≡ length (os ++ x ∷ []) * w
pushed_size w n ws row os x long size =
    let e : (length os + 1) * w ≡ length os * w + w = omega arith in
    length-append ws row ∙ (let f : length ws + length row ≡ (length os + 1) * w = omega arith in f) ∙ ap (λ m. m * w) (sym (length_push os x))

pub made_whole : (w s : ℕ) (ks : List Kept) (ws os : List ℕ) (p : RowPart) → AreStored w ks ws os → s < length ks → kept_at ks s ≡ kept.Part p
    → AreStored w (set ks s (kept.Whole (length os))) (ws ++ part_row w p) (os ++ s ∷ [])
made_whole w s ks ws os p h lt is =
    let n : ℕ = length os in
    let k : Kept = kept.Whole n in
    let size : length (part_row w p) ≡ w = sym (ap (λ (j : Kept). length (row_of w ws j)) is) ∙ row_size w s ks ws os h lt in
    record {
      least = h.least;
      few = h.few;
      long = pushed_size w n ws (part_row w p) os s h.long size;
      each = each_set w s ks (os ++ s ∷ []) k lt (omega (arith, length_push os s), get_or_push os s 0 n refl) (λ t below ne. kept_more w t s os (kept_at ks t) (h.each t below));
      owned = λ i in'. elim (cases_lt i n) [
        | inl before ↦ (
            let same : get_or (os ++ s ∷ []) i 0 ≡ get_or os i 0 = get_or_append_left os (s ∷ []) 0 i before in
            let P : ℕ → Type 0 = λ u. (u < length (set ks s k)) × (kept_at (set ks s k) u ≡ kept.Whole i) in
            subst P (sym same) (owned_set ks os s i k (h.owned i before) (part_no_whole ks s (get_or os i 0) i p is (h.owned i before).1)))
        | inr last ↦ (
            let e : i ≡ n = omega (arith, in', length_push os s) in
            let P : ℕ → Type 0 = λ u. IsOwned (set ks s k) (os ++ s ∷ []) u in
            let owner : get_or (os ++ s ∷ []) n 0 ≡ s = get_or_push os s 0 n refl in
            let Q : ℕ → Type 0 = λ u. (u < length (set ks s k)) × (kept_at (set ks s k) u ≡ k) in
            subst P (sym e) (subst Q (sym owner) (omega (arith, lt, length-set ks s k), set_here ks s k lt)))
      ];
      counted = omega (arith, h.counted, length_push os s, length-set ks s k, parts_set ks s k lt, ap part_count is);
    }

-- the row that became whole has its words still, and so has each other
pub whole_as_before : (w s : ℕ) (ks : List Kept) (ws os : List ℕ) (p : RowPart) → AreStored w ks ws os → s < length ks → kept_at ks s ≡ kept.Part p → words_in w (ws ++ part_row w p) (length os) ≡ part_row w p
whole_as_before w s ks ws os p h lt is =
    words_in_push w (length os) ws (part_row w p) h.long (sym (ap (λ (j : Kept). length (row_of w ws j)) is) ∙ row_size w s ks ws os h lt)

others_as_before : (w s : ℕ) (ks : List Kept) (ws os us : List ℕ) (k : Kept) → AreStored w ks ws os → AreOthers w s ks ws (set ks s k) (ws ++ us)
others_as_before w s ks ws os us k h t lt ne = ap (row_of w (ws ++ us)) (set_there ks s t k ne) ∙ row_more w t ws us os (kept_at ks t) h.long (h.each t lt)

-- a row that becomes whole and is changed then
pub whole_made_changed : (R : List ℕ → List ℕ → Type 0) (w s : ℕ) (ks : List Kept) (ws ws' os : List ℕ) (p : RowPart) → AreStored w ks ws os → s < length ks → kept_at ks s ≡ kept.Part p
    → length ws' ≡ length (ws ++ part_row w p) → R (part_row w p) (words_in w ws' (length os)) → AreOtherWholes w (length os + 1) (length os) (ws ++ part_row w p) ws'
    → IsSlotChanged R s (shown w ws ks) (shown w ws' (set ks s (kept.Whole (length os))))
whole_made_changed R w s ks ws ws' os p h lt is same r others =
    let n : ℕ = length os in
    let k : Kept = kept.Whole n in
    let us : List ℕ = ws ++ part_row w p in
    let made : AreStored w (set ks s k) us (os ++ s ∷ []) = made_whole w s ks ws os p h lt is in
    let P : Kept → Type 0 = λ j. R (row_of w ws j) (words_in w ws' n) in
    let Q : Kept → Type 0 = λ j. R (row_of w ws (kept_at ks s)) (row_of w ws' j) in
    slot_changed R w s ks (set ks s k) ws ws' os (os ++ s ∷ []) h (whole_stored w (set ks s k) us ws' (os ++ s ∷ []) made same) (length-set ks s k) lt
    (subst Q (sym (set_here ks s k lt)) (subst P (sym is) r))
    (λ t below ne.
    other_row w (n + 1) n s t us ws' (os ++ s ∷ []) (kept_at (set ks s k) t) (sym (length_push os s)) (get_or_push os s 0 n refl) ne (made.each t (omega (arith, below, length-set ks s k))) others
    ∙ others_as_before w s ks ws os (part_row w p) k h t below ne)

-- ---- Slots of which a part or all words are stored, with room for whole rows: what a call that changes one row leaves.

-- the rows as they are stored, and room for each of them among the whole ones
abbrev pub Holds : ℕ → List Kept → List ℕ → List ℕ → ℕ → ℕ → Type 0
Holds w ks ws os room owner_room = AreStored w ks ws os × (length ks * w ≤ room) × (length ks ≤ owner_room)

-- a slot that a call named, and how its row is kept
pub record IsFound (w s : ℕ) (ks : List Kept) (ws os : List ℕ) (room owner_room : ℕ) (v : WordsInSlots) (k : Kept) : Type 0 where
  pub holds : Holds w ks ws os room owner_room
  pub seen : shown w ws ks ≡ v
  pub there : s < length ks
  pub is : kept_at ks s ≡ k

pub found : (w s : ℕ) (ks : List Kept) (ws os : List ℕ) (room owner_room : ℕ) (v : WordsInSlots) (x k : Kept) → Holds w ks ws os room owner_room → shown w ws ks ≡ v → s < v.count → x ≡ slice_index_or ks s x → x ≡ k → IsFound w s ks ws os room owner_room v k
found w s ks ws os room owner_room v x k holds seen lt read is =
    let there = slot_there w s ks ws v seen lt in
    record { holds = holds; seen = seen; there = there; is = sym (get_or_read ks s x there read (kept.Whole 0)) ∙ is }

-- the words in a slot
pub row_seen : (w s : ℕ) (ks : List Kept) (ws os : List ℕ) (k : Kept) → AreStored w ks ws os → s < length ks → kept_at ks s ≡ k → words_in w (all_words w ws ks) s ≡ row_of w ws k
row_seen w s ks ws os k h lt is = shown_at w s ks ws os h lt ∙ ap (row_of w ws) is

pub row_found : (w s : ℕ) (ks : List Kept) (ws os : List ℕ) (room owner_room : ℕ) (v : WordsInSlots) (k : Kept) → IsFound w s ks ws os room owner_room v k → words_in v.width v.words s ≡ row_of w ws k
row_found w s ks ws os room owner_room v k h = ap (λ (u : WordsInSlots). words_in u.width u.words s) (sym h.seen) ∙ row_seen w s ks ws os k h.holds.0 h.there h.is

pub set_seen : (w s : ℕ) (ks : List Kept) (ws os : List ℕ) (k : Kept) → AreStored w (set ks s k) ws os → s < length ks → words_in w (all_words w ws (set ks s k)) s ≡ row_of w ws k
set_seen w s ks ws os k h lt = row_seen w s (set ks s k) ws os k h (omega (arith, lt, length-set ks s k)) (set_here ks s k lt)

pub same_holds : (w : ℕ) (ks ks' : List Kept) (ws ws' os os' : List ℕ) (room owner_room more owner_more : ℕ) → Holds w ks ws os room owner_room → ks' ≡ ks → ws' ≡ ws → os' ≡ os → room ≤ more → owner_room ≤ owner_more → Holds w ks' ws' os' more owner_more
same_holds w ks ks' ws ws' os os' room owner_room more owner_more h a b c up owner_up =
    let P : List Kept → Type 0 = λ js. Holds w js ws' os' more owner_more in
    let Q : List ℕ → Type 0 = λ vs. Holds w ks vs os' more owner_more in
    let R : List ℕ → Type 0 = λ ns. Holds w ks ws ns more owner_more in
    subst P (sym a) (subst Q (sym b) (subst R (sym c) (h.0, omega (arith, h.1, up), omega (arith, h.2, owner_up))))

-- ---- a part that changed

pub part_holds : (w s : ℕ) (ks : List Kept) (ws os : List ℕ) (room owner_room : ℕ) (v : WordsInSlots) (p q : RowPart) → IsFound w s ks ws os room owner_room v (kept.Part p) → IsWithin w q → Holds w (set ks s (kept.Part q)) ws os room owner_room
part_holds w s ks ws os room owner_room v p q h within =
    let same : length (set ks s (kept.Part q)) ≡ length ks = length-set ks s (kept.Part q) in
    (part_stored w s ks ws os p q h.holds.0 h.there h.is within, room_stays w _ _ room room same h.holds.1 (omega arith), omega (arith, same, h.holds.2))

pub part_seen : (R : List ℕ → List ℕ → Type 0) (w s : ℕ) (ks : List Kept) (ws os : List ℕ) (room owner_room : ℕ) (v : WordsInSlots) (p q : RowPart) → IsFound w s ks ws os room owner_room v (kept.Part p) → IsWithin w q → R (part_row w p) (part_row w q)
    → IsSlotChanged R s v (shown w ws (set ks s (kept.Part q)))
part_seen R w s ks ws os room owner_room v p q h within r = changed_as_seen R s _ v _ h.seen (part_changed R w s ks ws os p q h.holds.0 h.there h.is within r)

-- ---- a whole row that changed

pub whole_holds : (w : ℕ) (ks : List Kept) (ws ws' os : List ℕ) (room owner_room more : ℕ) → Holds w ks ws os room owner_room → length ws' ≡ length ws → more ≡ room → Holds w ks ws' os more owner_room
whole_holds w ks ws ws' os room owner_room more h same up = (whole_stored w ks ws ws' os h.0 same, omega (arith, h.1, up), h.2)

pub whole_seen : (R : List ℕ → List ℕ → Type 0) (w s i : ℕ) (ks : List Kept) (ws ws' os : List ℕ) (room owner_room : ℕ) (v : WordsInSlots) → IsFound w s ks ws os room owner_room v (kept.Whole i) → IsRowChanged R w (length os) i ws ws'
    → IsSlotChanged R s v (shown w ws' ks)
whole_seen R w s i ks ws ws' os room owner_room v h row = changed_as_seen R s _ v _ h.seen (whole_changed R w s i ks ws ws' os h.holds.0 h.there h.is row.as_long row.changed row.others)

-- ---- a row that becomes whole and changes then

pub made_holds : (w s i : ℕ) (ks : List Kept) (ws ws' us os os' : List ℕ) (room owner_room more owner_more most : ℕ) (v : WordsInSlots) (p : RowPart) → IsFound w s ks ws os room owner_room v (kept.Part p) → us ≡ ws ++ part_row w p → os' ≡ os ++ s ∷ [] → i ≡ length os
    → length ws' ≡ length us → room ≤ more → owner_room ≤ owner_more → most ≡ more → Holds w (set ks s (kept.Whole i)) ws' os' most owner_more
made_holds w s i ks ws ws' us os os' room owner_room more owner_more most v p h added owned is same up owner_up last =
    let ks' : List Kept = set ks s (kept.Whole i) in
    let as_many : length ks' ≡ length ks = length-set ks s (kept.Whole i) in
    let P : List ℕ → Type 0 = λ ns. AreStored w ks' ws' ns in
    let Q : ℕ → Type 0 = λ n. AreStored w (set ks s (kept.Whole n)) ws' (os ++ s ∷ []) in
    let made = whole_stored w (set ks s (kept.Whole (length os))) (ws ++ part_row w p) ws' (os ++ s ∷ []) (made_whole w s ks ws os p h.holds.0 h.there h.is) (same ∙ ap (λ (vs : List ℕ). length vs) added) in
    (subst P (sym owned) (subst Q (sym is) made), room_stays w _ _ room most as_many h.holds.1 (omega (arith, up, last)), omega (arith, as_many, h.holds.2, owner_up))

pub made_seen : (R : List ℕ → List ℕ → Type 0) (w s i : ℕ) (ks : List Kept) (ws ws' us os : List ℕ) (room owner_room : ℕ) (v : WordsInSlots) (p : RowPart) → IsFound w s ks ws os room owner_room v (kept.Part p) → us ≡ ws ++ part_row w p → i ≡ length os
    → IsRowChanged R w (length os + 1) i us ws' → IsSlotChanged R s v (shown w ws' (set ks s (kept.Whole i)))
made_seen R w s i ks ws ws' us os room owner_room v p h added is row =
    let n : ℕ = length os in
    let whole : List ℕ = ws ++ part_row w p in
    let P : List ℕ → Type 0 = λ vs. IsRowChanged R w (n + 1) i vs ws' in
    let Q : ℕ → Type 0 = λ j. IsRowChanged R w (n + 1) j whole ws' in
    let S : ℕ → Type 0 = λ j. IsSlotChanged R s v (shown w ws' (set ks s (kept.Whole j))) in
    let T : List ℕ → Type 0 = λ vs. R vs (words_in w ws' n) in
    let changed = subst Q is (subst P added row) in
    subst S (sym is) (changed_as_seen R s _ v _ h.seen (whole_made_changed R w s ks ws ws' os p h.holds.0 h.there h.is changed.as_long (subst T (whole_as_before w s ks ws os p h.holds.0 h.there h.is) changed.changed) changed.others))

-- how many words there are then
pub made_size : (w s i : ℕ) (ks : List Kept) (ws us os : List ℕ) (room owner_room : ℕ) (v : WordsInSlots) (p : RowPart) → IsFound w s ks ws os room owner_room v (kept.Part p) → us ≡ ws ++ part_row w p → i ≡ length os
    → (length us ≡ (length os + 1) * w) × (i * w + w ≤ length us) × (words_in w us i ≡ part_row w p)
made_size w s i ks ws us os room owner_room v p h added is =
    let made = made_whole w s ks ws os p h.holds.0 h.there h.is in
    let size : length us ≡ (length os + 1) * w = ap (λ (vs : List ℕ). length vs) added ∙ made.long ∙ ap (λ n. n * w) (length_push os s) in
    let more : (length os + 1) * w ≡ length os * w + w = omega arith in
    (size, omega (arith, size, more, ap (λ n. n * w) is), (λ j. words_in w (added j) (is j)) ∙ whole_as_before w s ks ws os p h.holds.0 h.there h.is)
