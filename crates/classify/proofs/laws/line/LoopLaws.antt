-- The loops over the items of a list and over the pieces of a line.
use Rattle.std.proofs.Common.{◌≡◌, ◌≢◌, inl, inr, ℕ, ◌+◌, ◌<◌, ◌≤◌, List, length, get_or, sym, ◌∙◌, arith, subst, ◌⊎◌, zero, suc, ◌-◌, ◌&&◌, ◌||◌, Bool, [], ◌∷◌, take, drop, refl, ap, All}
use Rattle.std.proofs.Math.ListN.{set}
use Rattle.std.proofs.lemmas.List.{length-set, get_or-set_same, get_or-set_other, get_or_default, take_all, drop_all, drop_more, drop_at, length-take-le}
use Rattle.std.proofs.lemmas.Bool.{cases_eq, cases_lt, le-leb, lt-leb}
use Rattle.std.proofs.Math.Dec.{leb}
use Rattle.std.specs.List.{remove}
use Rattle.std.proofs.lemmas.List.Edits.{get_or-remove_below, length-remove}
use Rattle.std.proofs.lemmas.List.Elements.{All-weaker, All-more}
use Rattle.fields.specs.declared.numbers.spans.Interval.{Interval}
use Rattle.fields.specs.numbers.Spans.{has, in_span, AreSpansFrom}
use Rattle.classify.specs.steps.Pieces.{CutsStart, EndsStart, IsRisingFrom, IsRising, DifferFrom, Differ, StartsAt, IsSplitOf, SayTheSame}
use Rattle.classify.specs.steps.Edits.{IsMergeOf, IsEndOf}
use Rattle.classify.proofs.laws.line.EditLaws.{Cut, row_in_first, merge_rising, merge_says}
use Rattle.classify.proofs.laws.line.ApartLaws.{ends_from_cuts, starts_zero}

-- ---- A loop that edits each item of a list in turn.

-- the items below k stand in R to those before, and the others are those before
pub record Edited {A : Type 0} (R : ℕ → A → A → Type 0) (old now : List A) (k : ℕ) : Type 0 where
  pub as_long : length now ≡ length old
  pub done : (j : ℕ) (l : A) → j < k → R j (get_or old j l) (get_or now j l)
  pub rest : (j : ℕ) (l : A) → k ≤ j → get_or now j l ≡ get_or old j l

-- the item at k as it was before
pub edited_read : {A : Type 0} (R : ℕ → A → A → Type 0) (old now : List A) (k : ℕ) (p : A) → Edited R old now k → p ≡ get_or now k p → p ≡ get_or old k p
edited_read R old now k p h e = e ∙ h.rest k p (omega arith)

pub edited_more : {A : Type 0} (R : ℕ → A → A → Type 0) (old now : List A) (k : ℕ) (p q : A) → Edited R old now k → k < length now → p ≡ get_or now k p → R k p q → Edited R old (set now k q) (k + 1)
edited_more {A = A} R old now k p q h lt e r =
    record {
      as_long = length-set now k q ∙ h.as_long;
      done = λ j l below.
          elim (cases_eq j k) [
            | inl at ↦ (
                let was : p ≡ get_or old k l = edited_read R old now k p h e ∙ get_or_default old k p l (omega (arith, h.as_long)) in
                let is : get_or (set now k q) k l ≡ q = get_or-set_same now k q l lt in
                let P : ℕ → Type 0 = λ i. R i (get_or old i l) (get_or (set now k q) i l) in
                let Q : A → Type 0 = λ m. R k m (get_or (set now k q) k l) in
                let S : A → Type 0 = λ m. R k p m in
                subst P (sym at) (subst Q was (subst S (sym is) r)))
            | inr ne ↦ (
                let T : A → Type 0 = λ m. R j (get_or old j l) m in
                subst T (sym (get_or-set_other now k j q l ne)) (h.done j l (omega arith)))
          ];
      rest = λ j l le. (let ne : j ≢ k = omega arith in get_or-set_other now k j q l ne ∙ h.rest j l (omega arith));
    }

-- R of every item, where it holds of an item and itself
pub edited_anyway : {A : Type 0} (R : ℕ → A → A → Type 0) (old now : List A) (k j : ℕ) (l : A) → Edited R old now k → (k ≤ j → R j (get_or old j l) (get_or old j l)) → R j (get_or old j l) (get_or now j l)
edited_anyway {A = A} R old now k j l h same =
    elim (cases_lt j k) [
      | inl lt ↦ h.done j l lt
      | inr le ↦ (let T : A → Type 0 = λ m. R j (get_or old j l) m in subst T (sym (h.rest j l le)) (same le))
    ]

pub edited_weaker : {A : Type 0} (R S : ℕ → A → A → Type 0) (old now : List A) (k : ℕ) → ((j : ℕ) (p q : A) → R j p q → S j p q) → Edited R old now k → Edited S old now k
edited_weaker R S old now k w h = record { as_long = h.as_long; done = λ j l lt. w j (get_or old j l) (get_or now j l) (h.done j l lt); rest = h.rest }

-- ---- The loops over the pieces of a line.

-- ---- a line cut at the ends of the spans, as far as the i-th

-- what a test of one interval says of two neighbours
span_cases : (s : Interval) (x : ℕ) → (in_span x s ≡ in_span (suc x) s) ⊎ ((suc x ≡ s.first) ⊎ (x ≡ s.last))
span_cases s x =
    elim (cases_eq (suc x) s.first) [
      | inl a ↦ inr (inl a)
      | inr na ↦ elim (cases_eq x s.last) [
        | inl b ↦ inr (inr b)
        | inr nb ↦ (
            let low : leb s.first x ≡ leb s.first (suc x) = elim (cases_lt x s.first) [
              | inl lt ↦ (let lt' : suc x < s.first = omega arith in lt-leb s.first x lt ∙ sym (lt-leb s.first (suc x) lt'))
              | inr ge ↦ (let ge' : s.first ≤ suc x = omega arith in le-leb s.first x ge ∙ sym (le-leb s.first (suc x) ge'))
            ] in
            let high : leb x s.last ≡ leb (suc x) s.last = elim (cases_lt x s.last) [
              | inl lt ↦ (let le : x ≤ s.last = omega arith in le-leb x s.last le ∙ sym (le-leb (suc x) s.last lt))
              | inr ge ↦ (let gt : s.last < x = omega arith in let gt' : s.last < suc x = omega arith in lt-leb x s.last gt ∙ sym (lt-leb (suc x) s.last gt'))
            ] in
            inl (ap (λ b. b && leb x s.last) low ∙ ap (λ b. leb s.first (suc x) && b) high))
      ]
    ]

-- where a set changes, one of its intervals begins, or has ended
pub change_is_end : (spans : List Interval) (d : Interval) (x : ℕ) → has spans x ≢ has spans (suc x) → (i : ℕ) × (i < length spans) × IsEndOf (get_or spans i d) (suc x)
change_is_end [] d x ne = absurd (ne refl)
change_is_end (s ∷ ss) d x ne =
    elim (span_cases s x) [
      | inl same ↦ (
          let r = change_is_end ss d x (λ e. ne (ap (λ b. b || has ss x) same ∙ ap (λ b. in_span (suc x) s || b) e)) in
          (suc r.0, omega (arith, r.1), r.2))
      | inr end ↦ elim end [
        | inl a ↦ (0, omega arith, inl a)
        | inr b ↦ (0, omega arith, inr (omega arith))
      ]
    ]

pub cuts_from_ends : (top : ℕ) (line : List Cut) (spans : List Interval) → All (EndsStart top line) spans → CutsStart top spans line
cuts_from_ends top line spans h x le ne =
    let none : Interval = record { first = 0; last = 0 } in
    let P : ℕ → Type 0 = λ y. StartsAt y line in
    let r = change_is_end spans none x ne in
    let here : EndsStart top line (get_or spans r.0 none) = h r.0 none r.1 in
    elim r.2 [ inl a ↦ subst P (sym a) here.0 | inr b ↦ subst P (sym b) (here.1 (omega arith)) ]

pub spans_within : (top low : ℕ) (spans : List Interval) (i : ℕ) (d : Interval) → AreSpansFrom top low spans → i < length spans → ((get_or spans i d).first ≤ top) × ((get_or spans i d).last ≤ top)
spans_within top low [] i d h lt = absurd (omega arith)
spans_within top low (s ∷ ss) zero d h lt = (omega (arith, h.1, h.2), h.2)
spans_within top low (s ∷ ss) (suc i) d h lt = spans_within top (s.last + 2) ss i d h.3 (omega arith)

pub split_twice : (top : ℕ) (spans : List Interval) (a b c : List Cut) → IsSplitOf top spans a b → IsSplitOf top spans b c → IsSplitOf top spans a c
split_twice top spans a b c g h = record { rising = h.rising; same = λ x. h.same x ∙ g.same x; keeps = λ x s. h.keeps x (g.keeps x s); only = λ x s. elim (h.only x s) [ inl t ↦ g.only x t | inr ne ↦ inr ne ] }

pub ends_kept : (top : ℕ) (a b : List Cut) (spans own : List Interval) → IsSplitOf top own a b → All (EndsStart top a) spans → All (EndsStart top b) spans
ends_kept top a b spans own h all = All-weaker (EndsStart top a) (EndsStart top b) (λ s e. (h.keeps s.first e.0, λ lt. h.keeps (s.last + 1) (e.1 lt))) spans all

pub record Split (top : ℕ) (spans : List Interval) (old now : List Cut) (i : ℕ) : Type 0 where
  pub split : IsSplitOf top spans old now
  pub ends : All (EndsStart top now) (take i spans)

pub split_next : (top : ℕ) (spans : List Interval) (old now new : List Cut) (i : ℕ) (d : Interval) → Split top spans old now i → IsSplitOf top spans now new → i < length spans
    → EndsStart top new (get_or spans i d) → Split top spans old new (i + 1)
split_next top spans old now new i d h g lt end =
    record {
      split = split_twice top spans old now new h.split g;
      ends = All-more (EndsStart top new) spans i d lt (ends_kept top now new (take i spans) spans g h.ends) end;
    }

-- where the cuts were there before, the ends of each interval are there
pub ends_there : (top : ℕ) (own items : List Interval) (old now : List Cut) (i : ℕ) (d : Interval) → items ≡ own → AreSpansFrom top 0 own → IsRising top old → CutsStart top own old → Split top items old now i → i < length items
    → EndsStart top now (get_or items i d)
ends_there top own items old now i d same canonical r cuts h lt =
    let all = ends_from_cuts top 0 old own canonical (λ x _ le ne. cuts x le ne) (λ _. starts_zero top old r) in
    let P : List Interval → Type 0 = λ ss. All (EndsStart top old) ss in
    ends_kept top old now items items h.split (subst P (sym same) all) i d lt

pub split_done_all : (top : ℕ) (spans own : List Interval) (old now : List Cut) (i : ℕ) → Split top spans old now i → length spans ≤ i → spans ≡ own → CutsStart top own now
split_done_all top spans own old now i h le e =
    let P : List Interval → Type 0 = λ ss. All (EndsStart top now) ss in
    cuts_from_ends top now own (subst P (take_all i spans le ∙ e) h.ends)

-- ---- equal neighbours joined, from the last down to the j-th

abbrev pub no_cut : Cut
no_cut = (0, [])

pub record Merging (old now : List Cut) (j : ℕ) : Type 0 where
  pub place : j < length now
  pub rising : (top : ℕ) → IsRising top old → IsRising top now
  pub same : (top : ℕ) → IsRising top old → SayTheSame old now
  pub differ : DifferFrom (get_or now j no_cut).1 (drop (suc j) now)

pub merging_first : (line : List Cut) (j : ℕ) → 0 < length line → j ≡ length line - 1 → Merging line line j
merging_first [] j h e = absurd (omega arith)
merging_first (d ∷ ps) j h e =
    let P : List Cut → Type 0 = λ cs. DifferFrom (get_or (d ∷ ps) j no_cut).1 cs in
    record {
      place = omega arith;
      rising = λ top r. r;
      same = λ top r x. refl;
      differ = subst P (sym (drop_all (suc j) (d ∷ ps) (omega arith))) tt;
    }

pub merging_skip : (old now : List Cut) (j : ℕ) → Merging old now (suc j) → (get_or now j no_cut).1 ≢ (get_or now (suc j) no_cut).1 → Merging old now j
merging_skip old now j h ne =
    let lt : suc j < length now = h.place in
    let next : suc j + 1 ≡ suc (suc j) = omega arith in
    let P : List Cut → Type 0 = λ cs. DifferFrom (get_or now j no_cut).1 cs in
    record {
      place = omega arith;
      rising = h.rising;
      same = h.same;
      differ = subst P (sym (drop_more now (suc j) no_cut lt ∙ ap (λ k. get_or now (suc j) no_cut ∷ drop k now) next)) (ne, h.differ);
    }

pub merge_line_rising : (top : ℕ) (line : List Cut) (j : ℕ) → IsRising top line → IsRising top (remove line (suc j))
merge_line_rising top [] j r = absurd r
merge_line_rising top (d ∷ ps) j r = (r.0, merge_rising top 0 ps j r.1)

pub merge_line_says : (top : ℕ) (line : List Cut) (j : ℕ) → IsRising top line → suc j < length line → (get_or line j no_cut).1 ≡ (get_or line (suc j) no_cut).1 → SayTheSame line (remove line (suc j))
merge_line_says top [] j r lt e x = absurd r
merge_line_says top (d ∷ ps) j r lt e x =
    let P : ℕ → Type 0 = λ a. IsRisingFrom top a ps in
    row_in_first d (remove ps j) x r.0 ∙ merge_says top d no_cut ps j (omega arith) e (subst P (sym r.0) r.1) x ∙ sym (row_in_first d ps x r.0)

pub merging_drop : (old now : List Cut) (j : ℕ) → Merging old now (suc j) → (get_or now j no_cut).1 ≡ (get_or now (suc j) no_cut).1 → Merging old (remove now (suc j)) j
merging_drop old now j h e =
    let lt : suc j < length now = h.place in
    let below : j < suc j = omega arith in
    let size : length (take (suc j) now) ≡ suc j = length-take-le (suc j) now (omega arith) in
    let rest : drop (suc j) (remove now (suc j)) ≡ drop (suc (suc j)) now = drop_at (take (suc j) now) (drop (suc (suc j)) now) (suc j) size in
    let row : (get_or (remove now (suc j)) j no_cut).1 ≡ (get_or now (suc j) no_cut).1 = ap (λ (c : Cut). c.1) (get_or-remove_below now (suc j) no_cut j below lt) ∙ e in
    let P : List Cut → Type 0 = λ cs. DifferFrom (get_or now (suc j) no_cut).1 cs in
    let Q : List Bool → Type 0 = λ r. DifferFrom r (drop (suc j) (remove now (suc j))) in
    record {
      place = omega (arith, length-remove now (suc j) lt);
      rising = λ top r. merge_line_rising top now j (h.rising top r);
      same = λ top r x. merge_line_says top now j (h.rising top r) lt e x ∙ h.same top r x;
      differ = subst Q (sym row) (subst P (sym rest) h.differ);
    }

merged_differ : (line : List Cut) → DifferFrom (get_or line 0 no_cut).1 (drop 1 line) → Differ line
merged_differ [] h = tt
merged_differ (d ∷ ps) h = h

pub merging_done : (old now : List Cut) (j : ℕ) → Merging old now j → j ≡ 0 → (top : ℕ) → IsRising top old → IsMergeOf top old now
merging_done old now j h z top r =
    let P : ℕ → Type 0 = λ k. DifferFrom (get_or now k no_cut).1 (drop (suc k) now) in
    record { rising = h.rising top r; same = h.same top r; differ = merged_differ now (subst P z h.differ) }
