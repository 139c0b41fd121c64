-- Rows of which a part or all words are stored: one fewer of them.
use Rattle.std.proofs.Common.{◌≡◌, ◌≢◌, inl, inr, ℕ, zero, suc, ◌+◌, ◌*◌, ◌<◌, ◌≤◌, List, [], ◌∷◌, length, take, get_or, refl, sym, ◌∙◌, ap, arith, subst}
use Rattle.std.proofs.Math.ListN.{set}
use Rattle.std.proofs.lemmas.Bool.{cases_eq}
use Rattle.std.proofs.lemmas.List.{length-set, length-take-le, get_or-take, get_or-set_same, get_or-set_other}
use Rattle.bits.specs.declared.whole_rows.Kept.{Kept}
use Rattle.bits.specs.declared.whole_rows.Kept.TheVariants as kept
use Rattle.bits.specs.declared.row_part.RowPart.{RowPart}
use Rattle.bits.specs.steps.Held.{words_in, IsMovedInto}
use Rattle.bits.specs.steps.StoredRows.{IsWithin, row_of, kept_at, part_count, parts, IsKept, IsOwned, AreStored, IsFreed, owners_after}
use Rattle.bits.proofs.laws.StoredLaws.{kept_whole, set_here, set_there, parts_set, each_set, part_no_whole, room_stays, shown, shown_at, shown_size, Holds}
use Rattle.bits.proofs.laws.RowsLaws.{slots_in_order, IsMovedIn}

wholes_apart : (ks : List Kept) (s t i j : ℕ) → kept_at ks s ≡ kept.Whole i → kept_at ks t ≡ kept.Whole j → j ≢ i → t ≢ s
wholes_apart ks s t i j a b ne e =
    let f : kept_at ks t ≡ kept_at ks s = ap (λ u. kept_at ks u) e in
    let g : kept.Whole j ≡ kept.Whole i = sym b ∙ f ∙ a in
    ne cc

-- ---- a row that is no longer whole

-- the whole row of slot s is given up: the last whole row, that of slot m, comes in its place
pub record IsGivenUp (w s i m last : ℕ) (ks : List Kept) (ws ws' os : List ℕ) (p : RowPart) : Type 0 where
  pub stored : AreStored w ks ws os
  pub slot : s < length ks
  pub whole : kept_at ks s ≡ kept.Whole i
  pub count : length os ≡ last + 1
  pub owner : m ≡ get_or os last 0
  pub moved : IsMovedIn w last i ws ws'
  pub within : IsWithin w p

abbrev kept_then : ℕ → ℕ → ℕ → List Kept → RowPart → List Kept
kept_then s i m ks p = set (set ks m (kept.Whole i)) s (kept.Part p)

abbrev owners_then : ℕ → ℕ → ℕ → List ℕ → List ℕ
owners_then i m last os = take last (set os i m)

mine : (w s i m last : ℕ) (ks : List Kept) (ws ws' os : List ℕ) (p : RowPart) → IsGivenUp w s i m last ks ws ws' os p → (i < length os) × (get_or os i 0 ≡ s)
mine w s i m last ks ws ws' os p h = kept_whole w s i ks ws os h.stored h.slot h.whole

its : (w s i m last : ℕ) (ks : List Kept) (ws ws' os : List ℕ) (p : RowPart) → IsGivenUp w s i m last ks ws ws' os p → (m < length ks) × (kept_at ks m ≡ kept.Whole last)
its w s i m last ks ws ws' os p h =
    let P : ℕ → Type 0 = λ u. (u < length ks) × (kept_at ks u ≡ kept.Whole last) in
    subst P (sym h.owner) (h.stored.owned last (omega (arith, h.count)))

owner_here : (i m last : ℕ) (os : List ℕ) → i < length os → i < last → get_or (owners_then i m last os) i 0 ≡ m
owner_here i m last os in' lt = get_or-take last (set os i m) i 0 lt ∙ get_or-set_same os i m 0 in'

owner_there : (i m last j : ℕ) (os : List ℕ) → j < last → j ≢ i → get_or (owners_then i m last os) j 0 ≡ get_or os j 0
owner_there i m last j os lt ne = get_or-take last (set os i m) j 0 lt ∙ get_or-set_other os i j m 0 ne

owners_size : (i m last : ℕ) (os : List ℕ) → length os ≡ last + 1 → length (owners_then i m last os) ≡ last
owners_size i m last os count = length-take-le last (set os i m) (omega (arith, count, length-set os i m))

-- which whole rows the other slots have
other_whole : (w s i m last t j : ℕ) (ks : List Kept) (ws ws' os : List ℕ) (p : RowPart) → IsGivenUp w s i m last ks ws ws' os p → t ≢ s → t ≢ m → IsKept w os t (kept.Whole j) → (j < last) × (j ≢ i)
other_whole w s i m last t j ks ws ws' os p h ne ne' is =
    let a : j ≢ i = λ e. ne (sym is.1 ∙ ap (λ k. get_or os k 0) e ∙ (mine w s i m last ks ws ws' os p h).1) in
    let b : j ≢ last = λ e. ne' (sym is.1 ∙ ap (λ k. get_or os k 0) e ∙ sym h.owner) in
    (omega (arith, is.0, h.count, b), a)

kept_still : (w s i m last t : ℕ) (ks : List Kept) (ws ws' os : List ℕ) (p : RowPart) (k : Kept) → IsGivenUp w s i m last ks ws ws' os p → t ≢ s → t ≢ m → IsKept w os t k → IsKept w (owners_then i m last os) t k
kept_still w s i m last t ks ws ws' os p (kept.Part q) h ne ne' is = is
kept_still w s i m last t ks ws ws' os p (kept.Whole j) h ne ne' is =
    let o = other_whole w s i m last t j ks ws ws' os p h ne ne' is in
    (omega (arith, o.0, owners_size i m last os h.count), owner_there i m last j os o.0 o.1 ∙ is.1)

row_still : (w s i m last t : ℕ) (ks : List Kept) (ws ws' os : List ℕ) (p : RowPart) (k : Kept) → IsGivenUp w s i m last ks ws ws' os p → t ≢ s → t ≢ m → IsKept w os t k → row_of w ws' k ≡ row_of w ws k
row_still w s i m last t ks ws ws' os p (kept.Part q) h ne ne' is = refl
row_still w s i m last t ks ws ws' os p (kept.Whole j) h ne ne' is =
    let o = other_whole w s i m last t j ks ws ws' os p h ne ne' is in
    h.moved.others j o.0 o.1

-- the last whole row is of slot s itself, or it has moved
moved_lower : (w s i m last : ℕ) (ks : List Kept) (ws ws' os : List ℕ) (p : RowPart) → IsGivenUp w s i m last ks ws ws' os p → m ≢ s → i < last
moved_lower w s i m last ks ws ws' os p h ne =
    let a = mine w s i m last ks ws ws' os p h in
    let b : i ≢ last = λ e. ne (h.owner ∙ ap (λ k. get_or os k 0) (sym e) ∙ a.1) in
    omega (arith, a.0, h.count, b)

pub given_up_stored : (w s i m last : ℕ) (ks : List Kept) (ws ws' os : List ℕ) (p : RowPart) → IsGivenUp w s i m last ks ws ws' os p → AreStored w (kept_then s i m ks p) ws' (owners_then i m last os)
given_up_stored w s i m last ks ws ws' os p h =
    let ks1 : List Kept = set ks m (kept.Whole i) in
    let os' : List ℕ = owners_then i m last os in
    let a = mine w s i m last ks ws ws' os p h in
    let b = its w s i m last ks ws ws' os p h in
    let size : length os' ≡ last = owners_size i m last os h.count in
    let as_many : length ks1 ≡ length ks = length-set ks m (kept.Whole i) in
    let there : s < length ks1 = omega (arith, h.slot) in
    let was : part_count (kept_at ks1 s) ≡ 0 = elim (cases_eq s m) [
      | inl e ↦ ap (λ u. part_count (kept_at ks1 u)) e ∙ ap part_count (set_here ks m (kept.Whole i) b.0)
      | inr ne ↦ ap part_count (set_there ks m s (kept.Whole i) ne ∙ h.whole)
    ] in
    record {
      least = h.stored.least;
      few = h.stored.few;
      long = h.moved.long ∙ ap (λ n. n * w) (sym size);
      each = each_set w s ks1 os' (kept.Part p) there h.within (λ t below ne. elim (cases_eq t m) [
        | inl e ↦ (
            let P : ℕ → Type 0 = λ u. IsKept w os' u (kept_at ks1 u) in
            let Q : Kept → Type 0 = λ k. IsKept w os' m k in
            let lt : i < last = moved_lower w s i m last ks ws ws' os p h (λ f. ne (e ∙ f)) in
            subst P (sym e) (subst Q (sym (set_here ks m (kept.Whole i) b.0)) (omega (arith, lt, size), owner_here i m last os a.0 lt)))
        | inr ne' ↦ (
            let R : Kept → Type 0 = λ k. IsKept w os' t k in
            subst R (sym (set_there ks m t (kept.Whole i) ne')) (kept_still w s i m last t ks ws ws' os p (kept_at ks t) h ne ne' (h.stored.each t (omega (arith, below, as_many)))))
      ]);
      owned = λ j in'. (
          let lt : j < last = omega (arith, in', size) in
          let Owned : ℕ → Type 0 = λ u. (u < length (kept_then s i m ks p)) × (kept_at (kept_then s i m ks p) u ≡ kept.Whole j) in
          let long : length (kept_then s i m ks p) ≡ length ks = length-set ks1 s (kept.Part p) ∙ as_many in
          elim (cases_eq j i) [
            | inl e ↦ (
                let ne : m ≢ s = wholes_apart ks s m i last h.whole b.1 (λ f. absurd (omega (arith, f, e, lt))) in
                let owner : get_or os' j 0 ≡ m = ap (λ k. get_or os' k 0) e ∙ owner_here i m last os a.0 (omega (arith, e, lt)) in
                subst Owned (sym owner) (omega (arith, b.0, long), set_there ks1 s m (kept.Part p) ne ∙ set_here ks m (kept.Whole i) b.0 ∙ ap (λ k. kept.Whole k) (sym e)))
            | inr ne ↦ (
                let o = h.stored.owned j (omega (arith, lt, h.count)) in
                let u : ℕ = get_or os j 0 in
                let apart : u ≢ s = wholes_apart ks s u i j h.whole o.1 ne in
                let apart' : u ≢ m = wholes_apart ks m u last j b.1 o.1 (λ f. absurd (omega (arith, f, lt))) in
                subst Owned (sym (owner_there i m last j os lt ne)) (omega (arith, o.0, long), set_there ks1 s u (kept.Part p) apart ∙ set_there ks m u (kept.Whole i) apart' ∙ o.1))
          ]);
      counted = omega (arith, h.stored.counted, h.count, size, as_many, length-set ks1 s (kept.Part p), parts_set ks1 s (kept.Part p) there, was, parts_set ks m (kept.Whole i) b.0, ap part_count b.1);
    }

pub given_up_freed : (w s i m last : ℕ) (ks : List Kept) (ws ws' os : List ℕ) (p : RowPart) → IsGivenUp w s i m last ks ws ws' os p → IsFreed w s ks (kept_then s i m ks p) ws ws'
given_up_freed w s i m last ks ws ws' os p h =
    let ks1 : List Kept = set ks m (kept.Whole i) in
    let b = its w s i m last ks ws ws' os p h in
    let as_many : length ks1 ≡ length ks = length-set ks m (kept.Whole i) in
    record {
      as_many = length-set ks1 s (kept.Part p) ∙ as_many;
      part = (p, set_here ks1 s (kept.Part p) (omega (arith, h.slot, as_many)));
      others = λ t below ne. ap (row_of w ws') (set_there ks1 s t (kept.Part p) ne) ∙ elim (cases_eq t m) [
        | inl e ↦ (
            ap (λ u. row_of w ws' (kept_at ks1 u)) e ∙ ap (row_of w ws') (set_here ks m (kept.Whole i) b.0)
            ∙ h.moved.moved (moved_lower w s i m last ks ws ws' os p h (λ f. ne (e ∙ f))) ∙ ap (row_of w ws) (sym b.1) ∙ ap (λ u. row_of w ws (kept_at ks u)) (sym e))
        | inr ne' ↦ ap (row_of w ws') (set_there ks m t (kept.Whole i) ne') ∙ row_still w s i m last t ks ws ws' os p (kept_at ks t) h ne ne' (h.stored.each t below)
      ];
    }

-- ---- a slot that goes

-- the last slot's row comes into slot s, of which a part is kept
pub record IsLeft (w s last : ℕ) (ks : List Kept) (ws os : List ℕ) (end : Kept) : Type 0 where
  pub stored : AreStored w ks ws os
  pub slot : s < length ks
  pub part : (p : RowPart) × (kept_at ks s ≡ kept.Part p)
  pub count : length ks ≡ last + 1
  pub ends : kept_at ks last ≡ end

parts_front : (ks : List Kept) (n : ℕ) → length ks ≡ n + 1 → parts ks ≡ parts (take n ks) + part_count (kept_at ks n)
parts_front [] n count = absurd (omega arith)
parts_front (k ∷ []) zero count = omega arith
parts_front (k ∷ j ∷ ks) zero count = absurd (omega arith)
parts_front (k ∷ ks) (suc n) count = omega (arith, parts_front ks n (omega arith))

abbrev kept_left : ℕ → ℕ → List Kept → Kept → List Kept
kept_left s last ks end = take last (set ks s end)

left_size : (w s last : ℕ) (ks : List Kept) (ws os : List ℕ) (end : Kept) → IsLeft w s last ks ws os end → length (kept_left s last ks end) ≡ last
left_size w s last ks ws os end h = length-take-le last (set ks s end) (omega (arith, h.count, length-set ks s end))

left_here : (w s last : ℕ) (ks : List Kept) (ws os : List ℕ) (end : Kept) → IsLeft w s last ks ws os end → s < last → kept_at (kept_left s last ks end) s ≡ end
left_here w s last ks ws os end h lt = get_or-take last (set ks s end) s (kept.Whole 0) lt ∙ set_here ks s end h.slot

left_there : (w s last t : ℕ) (ks : List Kept) (ws os : List ℕ) (end : Kept) → IsLeft w s last ks ws os end → t < last → t ≢ s → kept_at (kept_left s last ks end) t ≡ kept_at ks t
left_there w s last t ks ws os end h lt ne = get_or-take last (set ks s end) t (kept.Whole 0) lt ∙ set_there ks s t end ne

-- the last row has its owner in slot s now, and the others have theirs
kept_here : (w s last : ℕ) (os : List ℕ) (end : Kept) → IsKept w os last end → IsKept w (owners_after end s os) s end
kept_here w s last os (kept.Part q) is = is
kept_here w s last os (kept.Whole j) is = (omega (arith, is.0, length-set os j s), get_or-set_same os j s 0 is.0)

kept_there : (w s last t : ℕ) (os : List ℕ) (end k : Kept) → IsKept w os last end → t < last → IsKept w os t k → IsKept w (owners_after end s os) t k
kept_there w s last t os end (kept.Part q) is lt mine = mine
kept_there w s last t os (kept.Part q) (kept.Whole i) is lt mine = mine
kept_there w s last t os (kept.Whole j) (kept.Whole i) is lt mine =
    let ne : i ≢ j = λ e. absurd (omega (arith, lt, mine.1, is.1, ap (λ k. get_or os k 0) e)) in
    (omega (arith, mine.0, length-set os j s), get_or-set_other os j i s 0 ne ∙ mine.1)

after_size : (s : ℕ) (os : List ℕ) (end : Kept) → length (owners_after end s os) ≡ length os
after_size s os (kept.Part q) = refl
after_size s os (kept.Whole j) = length-set os j s

owned_left : (w s last i : ℕ) (ks : List Kept) (ws os : List ℕ) (end : Kept) → IsLeft w s last ks ws os end → IsKept w os last end → i < length os → IsOwned (kept_left s last ks end) (owners_after end s os) i
owned_left w s last i ks ws os (kept.Part q) h is in' =
    let o = h.stored.owned i in' in
    let u : ℕ = get_or os i 0 in
    let low : u < last = omega (arith, o.0, h.count, part_no_whole ks last u i q h.ends o.1) in
    (omega (arith, low, left_size w s last ks ws os (kept.Part q) h), left_there w s last u ks ws os (kept.Part q) h low (part_no_whole ks s u i h.part.0 h.part.1 o.1) ∙ o.1)
owned_left w s last i ks ws os (kept.Whole j) h is in' =
    let end : Kept = kept.Whole j in
    let o = h.stored.owned i in' in
    let size = left_size w s last ks ws os end h in
    let Owned : ℕ → Type 0 = λ u. (u < length (kept_left s last ks end)) × (kept_at (kept_left s last ks end) u ≡ kept.Whole i) in
    elim (cases_eq i j) [
      | inl e ↦ (
          let ne : last ≢ s = part_no_whole ks s last j h.part.0 h.part.1 h.ends in
          let low : s < last = omega (arith, h.slot, h.count, ne) in
          let owner : get_or (set os j s) i 0 ≡ s = ap (λ k. get_or (set os j s) k 0) e ∙ get_or-set_same os j s 0 is.0 in
          subst Owned (sym owner) (omega (arith, low, size), left_here w s last ks ws os end h low ∙ ap (λ k. kept.Whole k) (sym e)))
      | inr ne ↦ (
          let u : ℕ = get_or os i 0 in
          let low : u < last = omega (arith, o.0, h.count, wholes_apart ks last u j i h.ends o.1 ne) in
          subst Owned (sym (get_or-set_other os j i s 0 ne)) (omega (arith, low, size), left_there w s last u ks ws os end h low (part_no_whole ks s u i h.part.0 h.part.1 o.1) ∙ o.1))
    ]

last_kept : (w s last : ℕ) (ks : List Kept) (ws os : List ℕ) (end : Kept) → IsLeft w s last ks ws os end → IsKept w os last end
last_kept w s last ks ws os end h = let P : Kept → Type 0 = λ k. IsKept w os last k in subst P h.ends (h.stored.each last (omega (arith, h.count)))

left_stored : (w s last : ℕ) (ks : List Kept) (ws os : List ℕ) (end : Kept) → IsLeft w s last ks ws os end → AreStored w (kept_left s last ks end) ws (owners_after end s os)
left_stored w s last ks ws os end h =
    let ks' : List Kept = kept_left s last ks end in
    let os' : List ℕ = owners_after end s os in
    let size = left_size w s last ks ws os end h in
    let is = last_kept w s last ks ws os end h in
    let count = after_size s os end in
    let ends : kept_at (set ks s end) last ≡ end = elim (cases_eq last s) [
      | inl e ↦ ap (λ u. kept_at (set ks s end) u) e ∙ set_here ks s end h.slot
      | inr ne ↦ set_there ks s last end ne ∙ h.ends
    ] in
    record {
      least = h.stored.least;
      few = h.stored.few;
      long = h.stored.long ∙ ap (λ n. n * w) (sym count);
      each = λ t lt. (
          let low : t < last = omega (arith, lt, size) in
          elim (cases_eq t s) [
            | inl e ↦ (
                let P : ℕ → Type 0 = λ u. IsKept w os' u (kept_at ks' u) in
                let Q : Kept → Type 0 = λ k. IsKept w os' s k in
                subst P (sym e) (subst Q (sym (left_here w s last ks ws os end h (omega (arith, e, low)))) (kept_here w s last os end is)))
            | inr ne ↦ (
                let Q : Kept → Type 0 = λ k. IsKept w os' t k in
                subst Q (sym (left_there w s last t ks ws os end h low ne)) (kept_there w s last t os end (kept_at ks t) is low (h.stored.each t (omega (arith, low, h.count)))))
          ]);
      owned = λ i in'. owned_left w s last i ks ws os end h is (omega (arith, in', count));
      counted = omega (arith, h.stored.counted, h.count, size, count, parts_set ks s end h.slot, ap part_count h.part.1, parts_front (set ks s end) last (length-set ks s end ∙ h.count), ap part_count ends);
    }

-- a slot is freed, and goes then
pub removed : (w s last : ℕ) (ks ks1 : List Kept) (ws ws1 os os1 : List ℕ) (end : Kept) → AreStored w ks ws os → IsFreed w s ks ks1 ws ws1 → IsLeft w s last ks1 ws1 os1 end
    → IsMovedInto s (shown w ws ks) (shown w ws1 (kept_left s last ks1 end))
removed w s last ks ks1 ws ws1 os os1 end h f left =
    let ks' : List Kept = kept_left s last ks1 end in
    let os' : List ℕ = owners_after end s os1 in
    let h' = left_stored w s last ks1 ws1 os1 end left in
    let size = left_size w s last ks1 ws1 os1 end left in
    let count : length ks ≡ last + 1 = sym f.as_many ∙ left.count in
    let Q : ℕ → Type 0 = λ n. (s < n) → words_in w (shown w ws1 ks').words s ≡ words_in w (shown w ws ks).words n in
    record {
      count = omega (arith, size, count);
      width = refl;
      long = shown_size w ks' ws1 os' h';
      moved = subst Q (sym size) (λ lt.
          let ne : last ≢ s = λ e. absurd (omega (arith, e, lt)) in
          shown_at w s ks' ws1 os' h' (omega (arith, lt, size)) ∙ ap (row_of w ws1) (left_here w s last ks1 ws1 os1 end left lt ∙ sym left.ends) ∙ f.others last (omega (arith, count)) ne ∙ sym (shown_at w last ks ws os h (omega (arith, count))));
      others = λ t lt ne. (
          let low : t < last = omega (arith, lt, size) in
          shown_at w t ks' ws1 os' h' lt ∙ ap (row_of w ws1) (left_there w s last t ks1 ws1 os1 end left low ne) ∙ f.others t (omega (arith, low, count)) ne ∙ sym (shown_at w t ks ws os h (omega (arith, low, count))));
    }

pub left_holds : (w s last : ℕ) (ks ks1 : List Kept) (ws ws1 os os1 : List ℕ) (end : Kept) (room owner_room more owner_more : ℕ) → Holds w ks ws os room owner_room → IsLeft w s last ks1 ws1 os1 end → length ks1 ≡ length ks → more ≡ room → owner_more ≡ owner_room
    → Holds w (kept_left s last ks1 end) ws1 (owners_after end s os1) more owner_more
left_holds w s last ks ks1 ws ws1 os os1 end room owner_room more owner_more h left same up owner_up =
    let size = left_size w s last ks1 ws1 os1 end left in
    let count : length ks ≡ last + 1 = sym same ∙ left.count in
    let o : last * w + w ≤ length ks * w = slots_in_order w last (length ks) (omega (arith, count)) in
    (left_stored w s last ks1 ws1 os1 end left, room_stays w last _ room more size (omega (arith, o, h.1)) (omega (arith, up)), omega (arith, size, count, h.2, owner_up))
