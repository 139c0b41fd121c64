-- Rows of which a part or all words are stored: one more of them, or more words in each.
use Rattle.std.proofs.Common.{◌≡◌, inl, inr, ℕ, ◌+◌, ◌-◌, ◌*◌, ◌^◌, ◌<◌, ◌≤◌, List, [], ◌∷◌, ◌++◌, length, take, get_or, map, replicate, refl, sym, ◌∙◌, ap, arith, subst, append_assoc, append-nil}
use Rattle.std.specs.List.{concat}
use Rattle.std.proofs.Math.ListN.{set}
use Rattle.std.proofs.lemmas.Bool.{cases_lt}
use Rattle.std.proofs.lemmas.List.{length-map, get_or-map, get_or_append_left, get_or_push, length_push, map_push, same_lists, replicate-append-replicate}
use Rattle.bits.specs.declared.whole_rows.Kept.{Kept}
use Rattle.bits.specs.declared.whole_rows.Kept.TheVariants as kept
use Rattle.bits.specs.declared.row_part.RowPart.{RowPart}
use Rattle.bits.specs.steps.Held.{words_in, WordsInSlots, IsAppended, IsWidened}
use Rattle.bits.specs.steps.StoredRows.{part_row, IsWithin, row_of, all_words, kept_at, part_count, parts, IsKept, IsOwned, AreStored}
use Rattle.bits.proofs.laws.PartLaws.{all_blank}
use Rattle.bits.proofs.laws.RowsLaws.{concat_push, words_in_push, length-words_in}
use Rattle.bits.proofs.laws.StoredLaws.{Holds, IsFound, kept_more, kept_part, kept_whole, room_stays, pushed_size, row_more, shown, shown_at, shown_size}

-- ---- one row more

parts_push : (ks : List Kept) (k : Kept) → parts (ks ++ k ∷ []) ≡ parts ks + part_count k
parts_push [] k = omega arith
parts_push (j ∷ ks) k = omega (arith, parts_push ks k)

push_there : (ks : List Kept) (k : Kept) (t : ℕ) → t < length ks → kept_at (ks ++ k ∷ []) t ≡ kept_at ks t
push_there ks k t lt = get_or_append_left ks (k ∷ []) (kept.Whole 0) t lt

push_here : (ks : List Kept) (k : Kept) → kept_at (ks ++ k ∷ []) (length ks) ≡ k
push_here ks k = get_or_push ks k (kept.Whole 0) (length ks) refl

each_push : (w : ℕ) (ks : List Kept) (os : List ℕ) (k : Kept) → ((t : ℕ) → t < length ks → IsKept w os t (kept_at ks t)) → IsKept w os (length ks) k → (t : ℕ) → t < length (ks ++ k ∷ []) → IsKept w os t (kept_at (ks ++ k ∷ []) t)
each_push w ks os k others here t lt =
    elim (cases_lt t (length ks)) [
      | inl before ↦ (let P : Kept → Type 0 = λ j. IsKept w os t j in subst P (sym (push_there ks k t before)) (others t before))
      | inr last ↦ (
          let e : t ≡ length ks = omega (arith, lt, length_push ks k) in
          let P : ℕ → Type 0 = λ u. IsKept w os u (kept_at (ks ++ k ∷ []) u) in
          let Q : Kept → Type 0 = λ j. IsKept w os (length ks) j in
          subst P (sym e) (subst Q (sym (push_here ks k)) here))
    ]

owned_push : (ks : List Kept) (os : List ℕ) (k : Kept) (i : ℕ) → IsOwned ks os i → IsOwned (ks ++ k ∷ []) os i
owned_push ks os k i h = (omega (arith, h.0, length_push ks k), push_there ks k (get_or os i 0) h.0 ∙ h.1)

part_pushed : (w : ℕ) (ks : List Kept) (ws os : List ℕ) (p : RowPart) → AreStored w ks ws os → IsWithin w p → AreStored w (ks ++ kept.Part p ∷ []) ws os
part_pushed w ks ws os p h within = record {
  least = h.least;
  few = h.few;
  long = h.long;
  each = each_push w ks os (kept.Part p) h.each within;
  owned = λ i lt. owned_push ks os (kept.Part p) i (h.owned i lt);
  counted = omega (arith, h.counted, length_push ks (kept.Part p), parts_push ks (kept.Part p));
}

whole_pushed : (w : ℕ) (ks : List Kept) (ws row os : List ℕ) → AreStored w ks ws os → length row ≡ w → AreStored w (ks ++ kept.Whole (length os) ∷ []) (ws ++ row) (os ++ length ks ∷ [])
whole_pushed w ks ws row os h size =
    let n : ℕ = length os in
    let k : Kept = kept.Whole n in
    let os' : List ℕ = os ++ length ks ∷ [] in
    let count : length os' ≡ n + 1 = length_push os (length ks) in
    let owner : get_or os' n 0 ≡ length ks = get_or_push os (length ks) 0 n refl in
    record {
      least = h.least;
      few = h.few;
      long = pushed_size w n ws row os (length ks) h.long size;
      each = each_push w ks os' k (λ t lt. kept_more w t (length ks) os (kept_at ks t) (h.each t lt)) (omega (arith, count), owner);
      owned = λ i lt. elim (cases_lt i n) [
        | inl before ↦ (
            let P : ℕ → Type 0 = λ u. (u < length (ks ++ k ∷ [])) × (kept_at (ks ++ k ∷ []) u ≡ kept.Whole i) in
            subst P (sym (get_or_append_left os (length ks ∷ []) 0 i before)) (owned_push ks os k i (h.owned i before)))
        | inr last ↦ (
            let e : i ≡ n = omega (arith, lt, count) in
            let P : ℕ → Type 0 = λ u. IsOwned (ks ++ k ∷ []) os' u in
            let Q : ℕ → Type 0 = λ u. (u < length (ks ++ k ∷ [])) × (kept_at (ks ++ k ∷ []) u ≡ k) in
            subst P (sym e) (subst Q (sym owner) (omega (arith, length_push ks k), push_here ks k)))
      ];
      counted = omega (arith, h.counted, count, length_push ks k, parts_push ks k);
    }

same_rows : (w : ℕ) (ks : List Kept) (ws ws' : List ℕ) → ((t : ℕ) → t < length ks → row_of w ws' (kept_at ks t) ≡ row_of w ws (kept_at ks t)) → map (row_of w ws') ks ≡ map (row_of w ws) ks
same_rows w ks ws ws' same =
    let n = length-map ks (row_of w ws') in
    same_lists (map (row_of w ws') ks) (map (row_of w ws) ks) (n ∙ sym (length-map ks (row_of w ws))) (λ t d lt.
    let in' : t < length ks = omega (arith, lt, n) in
    get_or-map (row_of w ws') ks t (kept.Whole 0) d in' ∙ same t in' ∙ sym (get_or-map (row_of w ws) ks t (kept.Whole 0) d in'))

row_appended : (w s : ℕ) (ks : List Kept) (ws us os : List ℕ) (k : Kept) → AreStored w ks ws os → s < length ks → row_of w (ws ++ us) k ≡ row_of w ws (kept_at ks s) → IsAppended s (shown w ws ks) (shown w (ws ++ us) (ks ++ k ∷ []))
row_appended w s ks ws us os k h lt same = record {
  count = length_push ks k;
  width = refl;
  words = ap concat (map_push (row_of w (ws ++ us)) ks k) ∙ concat_push (map (row_of w (ws ++ us)) ks) (row_of w (ws ++ us) k)
      ∙ ap (λ (rows : List (List ℕ)). concat rows ++ row_of w (ws ++ us) k) (same_rows w ks ws (ws ++ us) (λ t below. row_more w t ws us os (kept_at ks t) h.long (h.each t below)))
      ∙ ap (λ (row : List ℕ). all_words w ws ks ++ row) (same ∙ sym (shown_at w s ks ws os h lt));
}

pub part_appended : (w s : ℕ) (ks ks' : List Kept) (ws ws' os os' : List ℕ) (room owner_room more owner_more : ℕ) (v : WordsInSlots) (p : RowPart) → IsFound w s ks ws os room owner_room v (kept.Part p) → ks' ≡ ks ++ kept.Part p ∷ [] → ws' ≡ ws → os' ≡ os
    → (length ks + 1) * w ≤ more → length ks + 1 ≤ owner_more → Holds w ks' ws' os' more owner_more × IsAppended s v (shown w ws' ks')
part_appended w s ks ks' ws ws' os os' room owner_room more owner_more v p h added same owned up owner_up =
    let k : Kept = kept.Part p in
    let h' = part_pushed w ks ws os p h.holds.0 (kept_part w s ks ws os p h.holds.0 h.there h.is) in
    let n = length_push ks k in
    let nil : ws' ≡ ws ++ [] = same ∙ sym (append-nil ws) in
    let P : List Kept → Type 0 = λ js. Holds w js ws' os' more owner_more in
    let Q : List ℕ → Type 0 = λ vs. AreStored w (ks ++ k ∷ []) vs os' in
    let R : List ℕ → Type 0 = λ ns. AreStored w (ks ++ k ∷ []) ws ns in
    let S : List Kept → Type 0 = λ js. IsAppended s v (shown w ws' js) in
    let T : List ℕ → Type 0 = λ vs. IsAppended s v (shown w vs (ks ++ k ∷ [])) in
    let U : WordsInSlots → Type 0 = λ u. IsAppended s u (shown w (ws ++ []) (ks ++ k ∷ [])) in (
      subst P (sym added) (subst Q (sym same) (subst R (sym owned) h'), room_stays w _ _ more more n up (omega arith), omega (arith, n, owner_up)),
      subst S (sym added) (subst T (sym nil) (subst U h.seen (row_appended w s ks ws [] os k h.holds.0 h.there (ap (row_of w ws) (sym h.is))))),
    )

pub whole_appended : (w s i n : ℕ) (ks ks' : List Kept) (ws ws' os os' : List ℕ) (room owner_room more owner_more : ℕ) (v : WordsInSlots) → IsFound w s ks ws os room owner_room v (kept.Whole i) → n ≡ length os → ks' ≡ ks ++ kept.Whole n ∷ [] → ws' ≡ ws ++ words_in w ws i → os' ≡ os ++ length ks ∷ []
    → (length ks + 1) * w ≤ more → length ks + 1 ≤ owner_more → Holds w ks' ws' os' more owner_more × IsAppended s v (shown w ws' ks')
whole_appended w s i n ks ks' ws ws' os os' room owner_room more owner_more v h is added copied owned up owner_up =
    let row : List ℕ = words_in w ws i in
    let k : Kept = kept.Whole (length os) in
    let size : length row ≡ w = length-words_in w (length os) i ws h.holds.0.long (kept_whole w s i ks ws os h.holds.0 h.there h.is).0 in
    let h' = whole_pushed w ks ws row os h.holds.0 size in
    let added' : ks' ≡ ks ++ k ∷ [] = added ∙ ap (λ j. ks ++ kept.Whole j ∷ []) is in
    let m = length_push ks k in
    let P : List Kept → Type 0 = λ js. Holds w js ws' os' more owner_more in
    let Q : List ℕ → Type 0 = λ vs. AreStored w (ks ++ k ∷ []) vs os' in
    let R : List ℕ → Type 0 = λ ns. AreStored w (ks ++ k ∷ []) (ws ++ row) ns in
    let S : List Kept → Type 0 = λ js. IsAppended s v (shown w ws' js) in
    let T : List ℕ → Type 0 = λ vs. IsAppended s v (shown w vs (ks ++ k ∷ [])) in
    let U : WordsInSlots → Type 0 = λ u. IsAppended s u (shown w (ws ++ row) (ks ++ k ∷ [])) in (
      subst P (sym added') (subst Q (sym copied) (subst R (sym owned) h'), room_stays w _ _ more more m up (omega arith), omega (arith, m, owner_up)),
      subst S (sym added') (subst T (sym copied) (subst U h.seen (row_appended w s ks ws row os k h.holds.0 h.there (words_in_push w (length os) ws row h.holds.0.long size ∙ ap (row_of w ws) (sym h.is))))),
    )

-- ---- more words in each row

wider_kept : (w v t : ℕ) (os : List ℕ) (k : Kept) → w ≤ v → IsKept w os t k → IsKept v os t k
wider_kept w v t os (kept.Part p) le is = record { four = is.four; ends = omega (arith, is.ends, le) }
wider_kept w v t os (kept.Whole i) le is = is

pub widened_stored : (w v : ℕ) (ks : List Kept) (ws us os : List ℕ) → AreStored w ks ws os → w ≤ v → v < 2 ^ 58 → length us ≡ length os * v → AreStored v ks us os
widened_stored w v ks ws us os h le few long = record {
  least = omega (arith, h.least, le);
  few = few;
  long = long;
  each = λ t lt. wider_kept w v t os (kept_at ks t) le (h.each t lt);
  owned = h.owned;
  counted = h.counted;
}

more_after : (w s : ℕ) → s + 4 ≤ w → 2 * w - (s + 4) ≡ w - (s + 4) + w
more_after w s le = omega arith

wider_row : (w t : ℕ) (ws us os : List ℕ) (k : Kept) → IsKept w os t k → ((i : ℕ) → i < length os → words_in (2 * w) us i ≡ words_in w ws i ++ replicate w 0) → row_of (2 * w) us k ≡ row_of w ws k ++ replicate w 0
wider_row w t ws us os (kept.Part p) is each =
    let front : List ℕ = replicate p.start 0 ++ p.words in
    ap (λ k. front ++ replicate k 0) (more_after w p.start is.ends) ∙ ap (λ (xs : List ℕ). front ++ xs) (sym (replicate-append-replicate (w - (p.start + 4)) w 0)) ∙ sym (append_assoc front (replicate (w - (p.start + 4)) 0) (replicate w 0))
wider_row w t ws us os (kept.Whole i) is each = each i is.0

pub slots_widened : (w : ℕ) (ks : List Kept) (ws us os : List ℕ) → AreStored w ks ws os → AreStored (2 * w) ks us os → ((i : ℕ) → i < length os → words_in (2 * w) us i ≡ words_in w ws i ++ replicate w 0) → IsWidened (shown w ws ks) (shown (2 * w) us ks)
slots_widened w ks ws us os h h' each = record {
  count = refl;
  width = refl;
  more = omega (arith, h.least);
  few = h'.few;
  long = shown_size (2 * w) ks us os h';
  each = λ t lt. shown_at (2 * w) t ks us os h' lt ∙ wider_row w t ws us os (kept_at ks t) (h.each t lt) each ∙ ap (λ (row : List ℕ). row ++ replicate w 0) (sym (shown_at w t ks ws os h lt));
}

-- ---- two blank rows

blank_row : (w : ℕ) (p : RowPart) → 4 ≤ w → p.start ≡ 0 → p.words ≡ replicate 4 0 → part_row w p ≡ replicate w 0
blank_row w p least first blank =
    let e : p.start + 4 + (w - (p.start + 4)) ≡ w = omega arith in
    all_blank p.start (w - (p.start + 4)) p.words blank ∙ ap (λ k. replicate k 0) e

pub two_blank : (w : ℕ) (ks : List Kept) (ws : List ℕ) (p q : RowPart) → 2 ≤ length ks → 4 ≤ w → p.start ≡ 0 → p.words ≡ replicate 4 0 → q.start ≡ 0 → q.words ≡ replicate 4 0
    → all_words w ws (set (set (take 2 ks) 0 (kept.Part p)) 1 (kept.Part q)) ≡ replicate (2 * w) 0
two_blank w [] ws p q two least a b c d = absurd (omega arith)
two_blank w (x ∷ []) ws p q two least a b c d = absurd (omega arith)
two_blank w (x ∷ y ∷ ks) ws p q two least a b c d =
    let e : w + w ≡ 2 * w = omega arith in
    ap (λ (xs : List ℕ). part_row w p ++ xs) (append-nil (part_row w q)) ∙ (λ i. blank_row w p least a b i ++ blank_row w q least c d i) ∙ replicate-append-replicate w w 0 ∙ ap (λ k. replicate k 0) e
