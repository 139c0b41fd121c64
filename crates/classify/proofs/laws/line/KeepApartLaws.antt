-- Neighbours with one bit at a place still have two rows when that bit goes, or when a set's answers take its place.
use Rattle.std.proofs.Common.{◌≡◌, ◌≢◌, ◌⊎◌, inl, inr, ℕ, zero, suc, ◌-◌, ◌<◌, ◌≤◌, Bool, false, List, [], ◌∷◌, length, get_or, sym, ◌∙◌, ap, arith, subst}
use Rattle.std.proofs.Math.ListN.{set}
use Rattle.std.specs.List.{remove}
use Rattle.std.specs.Prelude.{slice_index}
use Rattle.fields.specs.declared.numbers.spans.Interval.{Interval}
use Rattle.fields.specs.numbers.Spans.{has}
use Rattle.classify.specs.Line.{starts}
use Rattle.classify.specs.steps.Pieces.{CutsStart, IsApart, piece_at, IsRisingFrom, IsRising, DifferFrom, Differ, StartsAt, row_bits}
use Rattle.classify.specs.steps.Kept.{PiecesAndRoom}
use Rattle.classify.specs.steps.Edits.{with_written, without_answer, KeepsApart}
use Rattle.classify.proofs.laws.line.EditLaws.{same_over_piece, row_in_first, here_at, start_in, starts_here}
use Rattle.classify.proofs.laws.line.ApartLaws.{cuts_behind}
use Rattle.classify.proofs.laws.line.KeptLaws.{row_long}

abbrev Cut : Type 0
Cut = ℕ × List Bool

abbrev none : Cut
none = (0, [])

differ_next : (d : Cut) (ps : List Cut) (j : ℕ) → DifferFrom d.1 ps → j < length ps → (get_or (d ∷ ps) j none).1 ≢ (get_or ps j none).1
differ_next d [] j h lt = absurd (omega arith)
differ_next d (p ∷ ps) zero h lt = h.0
differ_next d (p ∷ ps) (suc j) h lt = differ_next p ps j h.1 (omega arith)

pub differ_at : (line : List Cut) (j : ℕ) → Differ line → suc j < length line → (get_or line j none).1 ≢ (get_or line (suc j) none).1
differ_at [] j h lt = absurd (omega arith)
differ_at (d ∷ ps) j h lt = differ_next d ps j h (omega arith)

rises_next : (top : ℕ) (d : Cut) (ps : List Cut) (j : ℕ) → IsRisingFrom top d.0 ps → j < length ps → (get_or (d ∷ ps) j none).0 < (get_or ps j none).0
rises_next top d [] j h lt = absurd (omega arith)
rises_next top d (p ∷ ps) zero h lt = h.0
rises_next top d (p ∷ ps) (suc j) h lt = rises_next top p ps j h.2 (omega arith)

pub within_at : (top a : ℕ) (ps : List Cut) (j : ℕ) → IsRisingFrom top a ps → j < length ps → (get_or ps j none).0 ≤ top
within_at top a [] j h lt = absurd (omega arith)
within_at top a (p ∷ ps) zero h lt = h.1
within_at top a (p ∷ ps) (suc j) h lt = within_at top p.0 ps j h.2 (omega arith)

-- ---- rows and one bit of them

remove_tells : (xs ys : List Bool) (at : ℕ) → at < length xs → length xs ≡ length ys → get_or xs at false ≡ get_or ys at false → remove xs at ≡ remove ys at → xs ≡ ys
remove_tells [] ys at lt n e r = absurd (omega arith)
remove_tells (x ∷ xs) [] at lt n e r = absurd (omega arith)
remove_tells (x ∷ xs) (y ∷ ys) zero lt n e r = λ i. e i ∷ r i
remove_tells (x ∷ xs) (y ∷ ys) (suc at) lt n e r =
    let head : x ≡ y = cc in
    let tail : remove xs at ≡ remove ys at = cc in
    let rest : xs ≡ ys = remove_tells xs ys at (omega arith) (omega arith) e tail in
    λ i. head i ∷ rest i

same_first : (x y : Bool) (xs ys : List Bool) → x ∷ xs ≡ y ∷ ys → (x ≡ y) × (xs ≡ ys)
same_first x y xs ys e = (first x y xs ys e, rest x y xs ys e)
  where
    first : (x y : Bool) (xs ys : List Bool) → x ∷ xs ≡ y ∷ ys → x ≡ y
    first x y xs ys e = cc

    rest : (x y : Bool) (xs ys : List Bool) → x ∷ xs ≡ y ∷ ys → xs ≡ ys
    rest x y xs ys e = cc

pub set_tells : (xs ys : List Bool) (at : ℕ) (a b : Bool) → at < length xs → length xs ≡ length ys → get_or xs at false ≡ get_or ys at false → set xs at a ≡ set ys at b → (xs ≡ ys) × (a ≡ b)
set_tells [] ys at a b lt n e r = absurd (omega arith)
set_tells (x ∷ xs) [] at a b lt n e r = absurd (omega arith)
set_tells (x ∷ xs) (y ∷ ys) zero a b lt n e r = let s = same_first a b xs ys r in let t = s.1 in (λ i. e i ∷ t i, s.0)
set_tells (x ∷ xs) (y ∷ ys) (suc at) a b lt n e r =
    let s = same_first x y (set xs at a) (set ys at b) r in
    let t = set_tells xs ys at a b (omega arith) (omega arith) e s.1 in
    let head = s.0 in
    let rest = t.0 in
    (λ i. head i ∷ rest i, t.1)

-- ---- a box taken out

pub apart_without : (at : ℕ) (l : PiecesAndRoom) → Differ l.pieces → at < row_bits l.pieces → KeepsApart (without_answer at) at l.pieces
apart_without at l differ lt j more bits same =
    let a = row_long l j (omega arith) in
    let b = row_long l (suc j) more in
    differ_at l.pieces j differ more (remove_tells (get_or l.pieces j none).1 (get_or l.pieces (suc j) none).1 at (omega (arith, a)) (a ∙ sym b) bits same)

-- ---- a box in the place of another

-- neighbours differ in their rows, or the set has only one of their starts
pub neighbours_apart : (top : ℕ) (s : List Interval) (line : List Cut) (j : ℕ) → IsRising top line → CutsStart top s line → IsApart s line → suc j < length line
    → ((get_or line j none).1 ≢ (get_or line (suc j) none).1) ⊎ (has s (get_or line j none).0 ≢ has s (get_or line (suc j) none).0)
neighbours_apart top s [] j r c apart lt = absurd r
neighbours_apart top s (d ∷ ps) j r c apart lt =
    let P : ℕ → Type 0 = λ a. IsRisingFrom top a ps in
    let r0 : IsRisingFrom top d.0 ps = subst P (sym r.0) r.1 in
    let in' : j < length ps = omega arith in
    let p : Cut = get_or (d ∷ ps) j none in
    let q : Cut = get_or ps j none in
    let up : p.0 < q.0 = rises_next top d ps j r0 in' in
    let y : ℕ = q.0 - 1 in
    let e : suc y ≡ q.0 = omega arith in
    let at_p : slice_index (starts (d ∷ ps)) j ≡ p.0 = start_in (d ∷ ps) j none (omega arith) in
    let at_q : slice_index (starts ps) j ≡ q.0 = start_in ps j none in' in
    let at_next : slice_index (starts (d ∷ ps)) (suc j) ≡ q.0 = start_in (d ∷ ps) (suc j) none lt in
    let here : piece_at d ps y ≡ p = here_at top y d none ps j r0 (omega arith) (omega arith) (λ _. omega arith) in
    let next : piece_at d ps (suc y) ≡ q = here_at top (suc y) d none ps (suc j) r0 (omega arith) (omega arith) (λ more. (
    let up' : q.0 < (get_or ps (suc j) none).0 = rises_next top d ps (suc j) r0 more in
    let at' : slice_index (starts ps) (suc j) ≡ (get_or ps (suc j) none).0 = start_in ps (suc j) none more in
    omega arith)) in
    let start : StartsAt (suc y) (d ∷ ps) = starts_here (d ∷ ps) (suc j) (suc y) lt (at_next ∙ sym e) in
    let top' : q.0 ≤ top = within_at top 0 ps j r.1 in' in
    let over : has s (piece_at d ps y).0 ≡ has s y = same_over_piece (has s) top d ps r.0 r.1 (cuts_behind top s d ps r.0 c) y (omega arith) in
    elim (apart y start) [
      | inl ne ↦ inl (λ same. ne (row_in_first d ps y r.0 ∙ ap (λ (o : Cut). o.1) here ∙ same ∙ sym (row_in_first d ps (suc y) r.0 ∙ ap (λ (o : Cut). o.1) next)))
      | inr ne ↦ inr (λ same. ne (sym over ∙ ap (λ (o : Cut). has s o.0) here ∙ same ∙ ap (has s) (sym e)))
    ]

pub apart_written : (top at : ℕ) (s : List Interval) (l : PiecesAndRoom) → IsRising top l.pieces → CutsStart top s l.pieces → IsApart s l.pieces → at < row_bits l.pieces → KeepsApart (with_written at s) at l.pieces
apart_written top at s l r c apart lt j more bits same =
    let a = row_long l j (omega arith) in
    let b = row_long l (suc j) more in
    let both = set_tells (get_or l.pieces j none).1 (get_or l.pieces (suc j) none).1 at (has s (get_or l.pieces j none).0) (has s (get_or l.pieces (suc j) none).0) (omega (arith, a)) (a ∙ sym b) bits same in
    elim (neighbours_apart top s l.pieces j r c apart more) [ inl ne ↦ ne both.0 | inr ne ↦ ne both.1 ]
