-- A line that is cut only where a set's intervals begin or end stays the shortest when the set's answers go in.
use Rattle.std.proofs.Common.{◌≡◌, ◌≢◌, inl, ℕ, zero, suc, ◌+◌, ◌<◌, ◌≤◌, ◌||◌, Bool, true, false, List, [], ◌∷◌, refl, sym, ◌∙◌, ap, arith, subst, All, inr, ◌-◌, cond, length, get_or, map}
use Rattle.std.proofs.lemmas.Bool.{true≢false, false≢true, le-leb, lt-leb}
use Rattle.std.proofs.lemmas.List.Elements.{All-nil, All-cons}
use Rattle.std.specs.List.{insert}
use Rattle.fields.specs.declared.numbers.spans.Interval.{Interval}
use Rattle.fields.specs.numbers.Spans.{has, AreSpansFrom}
use Rattle.fields.proofs.laws.numbers.SpanLaws.{out_below, out_above, in_it, none_below}
use Rattle.classify.specs.steps.Pieces.{StartsAt, IsRising, piece_at, row_in, IsRisingFrom, DifferFrom, Differ, IsSplitOf, EachRow, EndsStart, CutsStart, ChangesAt, IsApart}
use Rattle.classify.specs.steps.Edits.{with_answer}
use Rattle.classify.proofs.laws.line.StepLaws.{EachPiece, before_all, starts_above, starts_within, row_changes, piece_at_each}
use Rattle.classify.proofs.laws.line.EditLaws.{rows_say, rows_rising, same_over_piece, row_in_first}

-- ---- The ends of a set's intervals are where it begins and ends.

abbrev Cut : Type 0
Cut = ℕ × List Bool

pub ends_from_cuts : (top low : ℕ) (line : List Cut) (spans : List Interval) → AreSpansFrom top low spans
    → ((x : ℕ) → low ≤ suc x → suc x ≤ top → has spans x ≢ has spans (suc x) → StartsAt (suc x) line) → (low ≡ 0 → StartsAt 0 line) → All (EndsStart top line) spans
ends_from_cuts top low line [] h cuts first = All-nil (EndsStart top line)
ends_from_cuts top low line (s ∷ ss) h cuts first =
    let begins : (y : ℕ) → s.first ≡ y → StartsAt y line = λ y. begin y in
    let ends : s.last < top → StartsAt (s.last + 1) line =
    λ lt. (
    let e : suc s.last ≡ s.last + 1 = omega arith in
    let P : ℕ → Type 0 = λ y. StartsAt y line in
    let here : has (s ∷ ss) s.last ≡ true = ap (λ b. b || has ss s.last) (in_it s s.last h.1 (omega arith)) in
    let next : has (s ∷ ss) (suc s.last) ≡ false = ap (λ b. b || has ss (suc s.last)) (out_above s (suc s.last) (omega arith)) ∙ none_below top (s.last + 2) (suc s.last) ss h.3 (omega arith) in
    subst P e (cuts s.last (omega (arith, h.0, h.1)) lt (λ same. true≢false (sym here ∙ same ∙ next)))) in
    let later : (x : ℕ) → s.last + 2 ≤ suc x → suc x ≤ top → has ss x ≢ has ss (suc x) → StartsAt (suc x) line =
    λ x ge le ne. (
    let a : has (s ∷ ss) x ≡ has ss x = ap (λ b. b || has ss x) (out_above s x (omega arith)) in
    let b : has (s ∷ ss) (suc x) ≡ has ss (suc x) = ap (λ b. b || has ss (suc x)) (out_above s (suc x) (omega arith)) in
    cuts x (omega (arith, h.0, h.1)) le (λ same. ne (sym a ∙ same ∙ b))) in
    All-cons (EndsStart top line) s ss (begins s.first refl, ends) (ends_from_cuts top (s.last + 2) line ss h.3 later (λ z. absurd (omega arith)))
  where
    begin : (y : ℕ) → s.first ≡ y → StartsAt y line
    begin zero e = first (omega (arith, h.0))
    begin (suc y) e =
        let before : has (s ∷ ss) y ≡ false = ap (λ b. b || has ss y) (out_below s y (omega arith)) ∙ none_below top (s.last + 2) y ss h.3 (omega (arith, h.1)) in
        let here : has (s ∷ ss) (suc y) ≡ true = ap (λ b. b || has ss (suc y)) (in_it s (suc y) (omega arith) (omega (arith, h.1))) in
        cuts y (omega (arith, h.0)) (omega (arith, h.1, h.2)) (λ same. false≢true (sym before ∙ same ∙ here))

pub starts_zero : (top : ℕ) (line : List Cut) → IsRising top line → StartsAt 0 line
starts_zero top [] r = r
starts_zero top (d ∷ ps) r = inl (sym r.0)

-- ---- A line that is cut only where a set begins or ends stays the shortest when the set's answers go in.

-- ---- where the ends of an interval lie, the set changes

pub ends_change : (top low : ℕ) (spans : List Interval) (i : ℕ) (d : Interval) → AreSpansFrom top low spans → i < length spans
    → ((y : ℕ) → suc y ≡ (get_or spans i d).first → low ≤ suc y → has spans y ≢ has spans (suc y)) × ((y : ℕ) → suc y ≡ (get_or spans i d).last + 1 → has spans y ≢ has spans (suc y)) × (low ≤ (get_or spans i d).first) × ((get_or spans i d).first ≤ (get_or spans i d).last)
ends_change top low [] i d h lt = absurd (omega arith)
ends_change top low (s ∷ ss) zero d h lt = (
  λ y e le same.
      (let before : has (s ∷ ss) y ≡ false = ap (λ b. b || has ss y) (out_below s y (omega arith)) ∙ none_below top (s.last + 2) y ss h.3 (omega (arith, h.1)) in
      let here : has (s ∷ ss) (suc y) ≡ true = ap (λ b. b || has ss (suc y)) (in_it s (suc y) (omega arith) (omega (arith, h.1))) in
      false≢true (sym before ∙ same ∙ here)),
  λ y e same.
      (let here : has (s ∷ ss) y ≡ true = ap (λ b. b || has ss y) (in_it s y (omega (arith, h.1)) (omega arith)) in
      let next : has (s ∷ ss) (suc y) ≡ false = ap (λ b. b || has ss (suc y)) (out_above s (suc y) (omega arith)) ∙ none_below top (s.last + 2) (suc y) ss h.3 (omega arith) in
      true≢false (sym here ∙ same ∙ next)),
  h.0,
  h.1,
)
ends_change top low (s ∷ ss) (suc i) d h lt =
    let r = ends_change top (s.last + 2) ss i d h.3 (omega arith) in
    let lift : (y : ℕ) → s.last < y → has ss y ≢ has ss (suc y) → has (s ∷ ss) y ≢ has (s ∷ ss) (suc y) =
    λ y gt ne same. (
    let a : has (s ∷ ss) y ≡ has ss y = ap (λ b. b || has ss y) (out_above s y gt) in
    let b : has (s ∷ ss) (suc y) ≡ has ss (suc y) = ap (λ b. b || has ss (suc y)) (out_above s (suc y) (omega arith)) in
    ne (sym a ∙ same ∙ b)) in (
      λ y e le. lift y (omega (arith, r.2)) (r.0 y e (omega (arith, r.2))),
      λ y e. lift y (omega (arith, r.2, r.3)) (r.1 y e),
      omega (arith, h.0, h.1, r.2),
      r.3,
    )

-- some set begins at each number
abbrev pub begins_at : ℕ → List Interval
begins_at x = record { first = x; last = x } ∷ []

pub begins_there : (x : ℕ) → ChangesAt (begins_at x) x
begins_there x y e same =
    let s : Interval = record { first = x; last = x } in
    let before : has (begins_at x) y ≡ false = ap (λ b. b || false) (out_below s y (omega arith)) in
    let here : has (begins_at x) (suc y) ≡ true = ap (λ b. b || false) (in_it s (suc y) (omega arith) (omega arith)) in
    false≢true (sym before ∙ same ∙ here)

-- what `split_all` asks of each of its intervals
pub both_change : (top : ℕ) (spans : List Interval) (i : ℕ) (d : Interval) → AreSpansFrom top 0 spans → i < length spans → ChangesAt spans (get_or spans i d).first × ChangesAt spans ((get_or spans i d).last + 1)
both_change top spans i d h lt = let r = ends_change top 0 spans i d h lt in (λ y e. r.0 y e (omega arith), r.1)

-- ---- each cut is one of the line before, or one of the set

pub apart_after : (top : ℕ) (spans : List Interval) (old now : List Cut) → IsRising top old → Differ old → IsSplitOf top spans old now → IsApart spans now
apart_after top spans [] now r n s y st = absurd r
apart_after top spans (d ∷ ps) now r n s y st =
    let f : ℕ → List Bool = row_in (d ∷ ps) in
    elim (s.only y st) [
      | inr ne ↦ inr ne
      | inl t ↦ inl (λ same.
          (let P : ℕ → Type 0 = λ a. IsRisingFrom top a ps in
          let r0 : IsRisingFrom top d.0 ps = subst P (sym r.0) r.1 in
          let in' : StartsAt (suc y) ps = elim t [ inl e ↦ absurd (let z : suc y ≡ 0 = e ∙ r.0 in omega arith) | inr u ↦ u ] in
          row_changes top d ps y r0 n in' (sym (row_in_first d ps y r.0) ∙ sym (s.same y) ∙ same ∙ s.same (suc y) ∙ row_in_first d ps (suc y) r.0)))
    ]

-- ---- a line whose row changes wherever a piece starts has no equal neighbours

pub differ_from : (top : ℕ) (d : Cut) (ps : List Cut) → IsRisingFrom top d.0 ps → ((y : ℕ) → StartsAt (suc y) ps → (piece_at d ps y).1 ≢ (piece_at d ps (suc y)).1) → DifferFrom d.1 ps
differ_from top d [] r changes = tt
differ_from top d (p ∷ ps) r changes =
    let y : ℕ = p.0 - 1 in
    let e : suc y ≡ p.0 = omega (arith, r.0) in
    let low : y < p.0 = omega (arith, r.0) in
    let le : y ≤ p.0 = omega arith in
    let at : p.0 ≤ suc y = omega arith in
    let le' : suc y ≤ p.0 = omega arith in
    let here : piece_at d (p ∷ ps) y ≡ d = ap (λ (b : Bool). piece_at (cond b p d) ps y) (lt-leb p.0 y low) ∙ before_all top p.0 d ps y r.2 le in
    let next : piece_at d (p ∷ ps) (suc y) ≡ p = ap (λ (b : Bool). piece_at (cond b p d) ps (suc y)) (le-leb p.0 (suc y) at) ∙ before_all top p.0 p ps (suc y) r.2 le' in (
      λ same. changes y (inl e) (ap (λ (c : Cut). c.1) here ∙ same ∙ sym (ap (λ (c : Cut). c.1) next)),
      differ_from top p ps r.2 (λ z s same.
          (let gt : p.0 < suc z = starts_above top p.0 (suc z) ps r.2 s in
          let a : piece_at d (p ∷ ps) z ≡ piece_at p ps z = ap (λ (b : Bool). piece_at (cond b p d) ps z) (le-leb p.0 z (omega arith)) in
          let b : piece_at d (p ∷ ps) (suc z) ≡ piece_at p ps (suc z) = ap (λ (c : Bool). piece_at (cond c p d) ps (suc z)) (le-leb p.0 (suc z) (omega arith)) in
          changes z (inr s) (ap (λ (c : Cut). c.1) a ∙ same ∙ sym (ap (λ (c : Cut). c.1) b)))),
    )

-- ---- two rows that a bit was put into

insert_tells : (xs ys : List Bool) (at : ℕ) (a b : Bool) → at ≤ length xs → length xs ≡ length ys → insert xs at a ≡ insert ys at b → (xs ≡ ys) × (a ≡ b)
insert_tells xs [] zero a b le n e = (front, bit)
  where
    front : xs ≡ []
    front = cc

    bit : a ≡ b
    bit = cc
insert_tells xs (y ∷ ys) zero a b le n e = (front, bit)
  where
    front : xs ≡ y ∷ ys
    front = cc

    bit : a ≡ b
    bit = cc
insert_tells [] ys (suc at) a b le n e = absurd (omega arith)
insert_tells (x ∷ xs) [] (suc at) a b le n e = absurd (omega arith)
insert_tells (x ∷ xs) (y ∷ ys) (suc at) a b le n e =
    let head : x ≡ y = cc in
    let tail : insert xs at a ≡ insert ys at b = cc in
    let r = insert_tells xs ys at a b (omega arith) (omega arith) tail in
    (λ i. head i ∷ r.0 i, r.1)

-- ---- the set's answers put in

each_long : (n : ℕ) (line : List Cut) → EachRow n line → EachPiece (λ p. length p.1 ≡ n) line
each_long n [] h = tt
each_long n (p ∷ ps) h = (h.0, each_long n ps h.1)

starts_back : (at : ℕ) (s : List Interval) (ps : List Cut) (x : ℕ) → StartsAt x (map (with_answer at s) ps) → StartsAt x ps
starts_back at s [] x h = h
starts_back at s (p ∷ ps) x h = elim h [ inl e ↦ inl e | inr t ↦ inr (starts_back at s ps x t) ]

pub cuts_behind : (top : ℕ) (s : List Interval) (d : Cut) (ps : List Cut) → d.0 ≡ 0 → CutsStart top s (d ∷ ps) → (x : ℕ) → suc x ≤ top → has s x ≢ has s (suc x) → StartsAt (suc x) ps
cuts_behind top s d ps z c x le ne = elim (c x le ne) [ inl e ↦ absurd (let q : suc x ≡ 0 = e ∙ z in omega arith) | inr t ↦ t ]

pub answers_differ : (top n at : ℕ) (s : List Interval) (line : List Cut) → IsRising top line → CutsStart top s line → IsApart s line → EachRow n line → at ≤ n → Differ (map (with_answer at s) line)
answers_differ top n at s [] r c apart rows le = absurd r
answers_differ top n at s (d ∷ ps) r c apart rows le =
    let g : Cut → List Bool = λ p. insert p.1 at (has s p.0) in
    let P : ℕ → Type 0 = λ a. IsRisingFrom top a (map (with_answer at s) ps) in
    let rise : IsRisingFrom top 0 (map (with_answer at s) ps) = rows_rising top 0 g ps r.1 in
    let said : (x : ℕ) → x ≤ top → (piece_at (with_answer at s d) (map (with_answer at s) ps) x).1 ≡ insert (row_in (d ∷ ps) x) at (has s x) =
    λ x le'. (
    let alike : has s (piece_at d ps x).0 ≡ has s x = same_over_piece (has s) top d ps r.0 r.1 (cuts_behind top s d ps r.0 c) x le' in
    ap (λ (p : Cut). p.1) (rows_say g d ps x) ∙ ap (λ (b : Bool). insert (piece_at d ps x).1 at b) alike ∙ ap (λ (bs : List Bool). insert bs at (has s x)) (sym (row_in_first d ps x r.0))) in
    let long : (x : ℕ) → length (row_in (d ∷ ps) x) ≡ n = λ x. ap length (row_in_first d ps x r.0) ∙ piece_at_each (λ p. length p.1 ≡ n) d ps x rows.0 (each_long n ps rows.1) in
    differ_from top (with_answer at s d) (map (with_answer at s) ps) (subst P (sym r.0) rise) (λ y st same.
    (let back : StartsAt (suc y) ps = starts_back at s ps (suc y) st in
    let top' : suc y ≤ top = starts_within top 0 (suc y) ps r.1 back in
    let lt : at ≤ length (row_in (d ∷ ps) y) = omega (arith, long y) in
    let both = insert_tells (row_in (d ∷ ps) y) (row_in (d ∷ ps) (suc y)) at (has s y) (has s (suc y)) lt (long y ∙ sym (long (suc y))) (sym (said y (omega arith)) ∙ same ∙ said (suc y) top') in
    elim (apart y (inr back)) [ inl ne ↦ ne both.0 | inr ne ↦ ne both.1 ]))
