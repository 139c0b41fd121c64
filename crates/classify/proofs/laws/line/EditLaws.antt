-- What an edit of the pieces leaves: a piece put in, a piece taken out, each row changed, and what the pieces then show.
use Rattle.std.proofs.Common.{◌≡◌, ◌≢◌, ◌⊎◌, inl, inr, ℕ, zero, suc, ◌<◌, ◌≤◌, Bool, true, false, cond, List, [], ◌∷◌, length, get_or, refl, sym, ◌∙◌, ap, arith, subst, map, ◌+◌}
use Rattle.std.specs.Prelude.{slice_index}
use Rattle.std.specs.List.{insert, remove}
use Rattle.std.proofs.Math.Dec.{leb}
use Rattle.std.proofs.lemmas.Bool.{le-leb, lt-leb, cases_lt}
use Rattle.fields.specs.declared.numbers.spans.Interval.{Interval}
use Rattle.classify.specs.steps.Pieces.{piece_at, IsRisingFrom, StartsAt, row_in, IsRising, IsSplitOf, ChangesAt}
use Rattle.classify.specs.Line.{starts}
use Rattle.classify.specs.steps.Edits.{row_of}
use Rattle.classify.proofs.laws.line.StepLaws.{before_all, cases_starts, nothing_changes, piece_at_start, starts_above}
use Rattle.classify.proofs.laws.line.LineLaws.{cases_same}

-- ---- What an edit of the pieces leaves: a piece put in, a piece taken out, each row changed.

abbrev Piece : Type 0
Piece = ℕ × List Bool

-- what is said depends on the row of the first piece alone
same_row : (d e : Piece) (ps : List Piece) (y : ℕ) → d.1 ≡ e.1 → (piece_at d ps y).1 ≡ (piece_at e ps y).1
same_row d e [] y h = h
same_row d e (p ∷ ps) y h =
    let here : (cond (leb p.0 y) p d).1 ≡ (cond (leb p.0 y) p e).1 = elim (leb p.0 y) as (λ (b : Bool). (cond b p d).1 ≡ (cond b p e).1) [ true ↦ refl | false ↦ h ] in
    same_row (cond (leb p.0 y) p d) (cond (leb p.0 y) p e) ps y here

weaker_rising : (top a b : ℕ) (ps : List Piece) → a ≤ b → IsRisingFrom top b ps → IsRisingFrom top a ps
weaker_rising top a b [] le h = tt
weaker_rising top a b (p ∷ ps) le h = (omega (arith, h.0), h.1, h.2)

-- ---- a piece put in after the i-th of d ∷ ps, with its row

pub record Splits (top : ℕ) (d e : Piece) (ps : List Piece) (i : ℕ) (q : Piece) : Type 0 where
  pub place : i ≤ length ps
  pub low : (get_or (d ∷ ps) i e).0 < q.0
  pub high : i < length ps → q.0 < (get_or ps i e).0
  pub within : q.0 ≤ top
  pub row : q.1 ≡ (get_or (d ∷ ps) i e).1

later : (top : ℕ) (d e p : Piece) (ps : List Piece) (i : ℕ) (q : Piece) → Splits top d e (p ∷ ps) (suc i) q → Splits top p e ps i q
later top d e p ps i q h = record { place = omega (arith, h.place); low = h.low; high = λ lt. h.high (omega arith); within = h.within; row = h.row }

pub split_rising : (top : ℕ) (d e : Piece) (ps : List Piece) (i : ℕ) (q : Piece) → Splits top d e ps i q → IsRisingFrom top d.0 ps → IsRisingFrom top d.0 (insert ps i q)
split_rising top d e [] zero q h r = (h.low, h.within, tt)
split_rising top d e (p ∷ ps) zero q h r = (h.low, h.within, (h.high (omega arith), r.1, r.2))
split_rising top d e [] (suc i) q h r = absurd (omega (arith, h.place))
split_rising top d e (p ∷ ps) (suc i) q h r = (r.0, r.1, split_rising top p e ps i q (later top d e p ps i q h) r.2)

pub split_says : (top : ℕ) (d e : Piece) (ps : List Piece) (i : ℕ) (q : Piece) → Splits top d e ps i q → IsRisingFrom top d.0 ps → (y : ℕ) → (piece_at d (insert ps i q) y).1 ≡ (piece_at d ps y).1
split_says top d e ps zero q h r y =
    let here : (cond (leb q.0 y) q d).1 ≡ d.1 = elim (leb q.0 y) as (λ (b : Bool). (cond b q d).1 ≡ d.1) [ true ↦ h.row | false ↦ refl ] in
    same_row (cond (leb q.0 y) q d) d ps y here
split_says top d e [] (suc i) q h r y = absurd (omega (arith, h.place))
split_says top d e (p ∷ ps) (suc i) q h r y =
    let h' = later top d e p ps i q h in
    elim (cases_lt y p.0) [
      | inl lt ↦ (
          let le : y ≤ p.0 = omega arith in
          let f : leb p.0 y ≡ false = lt-leb p.0 y lt in
          ap (λ (b : Bool). (piece_at (cond b p d) (insert ps i q) y).1) f
          ∙ ap (λ (o : Piece). o.1) (before_all top p.0 d (insert ps i q) y (split_rising top p e ps i q h' r.2) le ∙ sym (before_all top p.0 d ps y r.2 le))
          ∙ sym (ap (λ (b : Bool). (piece_at (cond b p d) ps y).1) f))
      | inr ge ↦ (
          let t : leb p.0 y ≡ true = le-leb p.0 y ge in
          ap (λ (b : Bool). (piece_at (cond b p d) (insert ps i q) y).1) t ∙ split_says top p e ps i q h' r.2 y ∙ sym (ap (λ (b : Bool). (piece_at (cond b p d) ps y).1) t))
    ]

pub split_starts : (ps : List Piece) (i : ℕ) (q : Piece) → i ≤ length ps → StartsAt q.0 (insert ps i q)
split_starts ps zero q le = inl refl
split_starts [] (suc i) q le = absurd (omega arith)
split_starts (p ∷ ps) (suc i) q le = inr (split_starts ps i q (omega arith))

pub split_keeps : (ps : List Piece) (i : ℕ) (q : Piece) (y : ℕ) → StartsAt y ps → StartsAt y (insert ps i q)
split_keeps ps zero q y s = inr s
split_keeps [] (suc i) q y s = absurd s
split_keeps (p ∷ ps) (suc i) q y s = elim s [ inl e ↦ inl e | inr t ↦ inr (split_keeps ps i q y t) ]

pub split_only : (ps : List Piece) (i : ℕ) (q : Piece) (y : ℕ) → StartsAt y (insert ps i q) → StartsAt y ps ⊎ (y ≡ q.0)
split_only [] zero q y s = elim s [ inl e ↦ inr e | inr t ↦ inl t ]
split_only [] (suc i) q y s = elim s [ inl e ↦ inr e | inr t ↦ inl t ]
split_only (p ∷ ps) zero q y s = elim s [ inl e ↦ inr e | inr t ↦ inl t ]
split_only (p ∷ ps) (suc i) q y s = elim s [ inl e ↦ inl (inl e) | inr t ↦ elim (split_only ps i q y t) [ inl u ↦ inl (inr u) | inr e ↦ inr e ] ]

-- ---- a piece taken out that says what the one before says

pub merge_rising : (top a : ℕ) (ps : List Piece) (i : ℕ) → IsRisingFrom top a ps → IsRisingFrom top a (remove ps i)
merge_rising top a [] zero r = tt
merge_rising top a [] (suc i) r = tt
merge_rising top a (p ∷ ps) zero r = weaker_rising top a p.0 ps (omega (arith, r.0)) r.2
merge_rising top a (p ∷ ps) (suc i) r = (r.0, r.1, merge_rising top p.0 ps i r.2)

pub merge_says : (top : ℕ) (d e : Piece) (ps : List Piece) (i : ℕ) → i < length ps → (get_or (d ∷ ps) i e).1 ≡ (get_or ps i e).1 → IsRisingFrom top d.0 ps
    → (y : ℕ) → (piece_at d (remove ps i) y).1 ≡ (piece_at d ps y).1
merge_says top d e [] i lt same r y = absurd (omega arith)
merge_says top d e (p ∷ ps) zero lt same r y =
    let here : d.1 ≡ (cond (leb p.0 y) p d).1 = elim (leb p.0 y) as (λ (b : Bool). d.1 ≡ (cond b p d).1) [ true ↦ same | false ↦ refl ] in
    same_row d (cond (leb p.0 y) p d) ps y here
merge_says top d e (p ∷ ps) (suc i) lt same r y =
    elim (cases_lt y p.0) [
      | inl lt' ↦ (
          let le : y ≤ p.0 = omega arith in
          let f : leb p.0 y ≡ false = lt-leb p.0 y lt' in
          ap (λ (b : Bool). (piece_at (cond b p d) (remove ps i) y).1) f
          ∙ ap (λ (o : Piece). o.1) (before_all top p.0 d (remove ps i) y (merge_rising top p.0 ps i r.2) le ∙ sym (before_all top p.0 d ps y r.2 le))
          ∙ sym (ap (λ (b : Bool). (piece_at (cond b p d) ps y).1) f))
      | inr ge ↦ (
          let t : leb p.0 y ≡ true = le-leb p.0 y ge in
          ap (λ (b : Bool). (piece_at (cond b p d) (remove ps i) y).1) t ∙ merge_says top p e ps i (omega arith) same r.2 y ∙ sym (ap (λ (b : Bool). (piece_at (cond b p d) ps y).1) t))
    ]

-- ---- each row changed

abbrev pub with_row : (Piece → List Bool) → Piece → Piece
with_row f p = (p.0, f p)

pub rows_rising : (top a : ℕ) (f : Piece → List Bool) (ps : List Piece) → IsRisingFrom top a ps → IsRisingFrom top a (map (with_row f) ps)
rows_rising top a f [] r = tt
rows_rising top a f (p ∷ ps) r = (r.0, r.1, rows_rising top p.0 f ps r.2)

pub rows_say : (f : Piece → List Bool) (d : Piece) (ps : List Piece) (y : ℕ) → piece_at (with_row f d) (map (with_row f) ps) y ≡ with_row f (piece_at d ps y)
rows_say f d [] y = refl
rows_say f d (p ∷ ps) y =
    let here : cond (leb p.0 y) (with_row f p) (with_row f d) ≡ with_row f (cond (leb p.0 y) p d) =
    elim (leb p.0 y) as (λ (b : Bool). cond b (with_row f p) (with_row f d) ≡ with_row f (cond b p d)) [ true ↦ refl | false ↦ refl ] in
    ap (λ (o : Piece). piece_at o (map (with_row f) ps) y) here ∙ rows_say f (cond (leb p.0 y) p d) ps y

-- a test that changes only where pieces start answers alike all over a piece
pub same_over_piece : (g : ℕ → Bool) (top : ℕ) (d : Piece) (ps : List Piece) → d.0 ≡ 0 → IsRisingFrom top 0 ps
    → ((x : ℕ) → suc x ≤ top → g x ≢ g (suc x) → StartsAt (suc x) ps) → (y : ℕ) → y ≤ top → g (piece_at d ps y).0 ≡ g y
same_over_piece g top d ps z r cuts zero le =
    let le0 : 0 ≤ 0 = omega arith in
    ap g (ap (λ (o : Piece). o.0) (before_all top 0 d ps 0 r le0) ∙ z)
same_over_piece g top d ps z r cuts (suc y) le =
    let P : ℕ → Type 0 = λ a. IsRisingFrom top a ps in
    let r0 : IsRisingFrom top d.0 ps = subst P (sym z) r in
    let before : g (piece_at d ps y).0 ≡ g y = same_over_piece g top d ps z r cuts y (omega arith) in
    elim (cases_starts (suc y) ps) [
      | inl s ↦ ap g (piece_at_start top d ps (suc y) r0 s)
      | inr m ↦ (
          let kept : g (piece_at d ps (suc y)).0 ≡ g y = ap (λ (o : Piece). g o.0) (nothing_changes d ps y m) ∙ before in
          elim (cases_same (g y) (g (suc y))) [ inl e ↦ kept ∙ e | inr ne ↦ absurd (m (cuts y le ne)) ])
    ]

-- ---- What an edit of the pieces leaves of what they show.

abbrev pub Cut : Type 0
Cut = ℕ × List Bool

-- a first piece at 0 is at or before each number
pub row_in_first : (d : Cut) (ps : List Cut) (x : ℕ) → d.0 ≡ 0 → row_in (d ∷ ps) x ≡ (piece_at d ps x).1
row_in_first d ps x z = ap (λ (b : Bool). (piece_at (cond b d (0, [])) ps x).1) (le-leb d.0 x (omega arith))

pub start_in : (line : List Cut) (i : ℕ) (e : Cut) → i < length line → slice_index (starts line) i ≡ (get_or line i e).0
start_in [] i e lt = absurd (omega arith)
start_in (p ∷ ps) zero e lt = refl
start_in (p ∷ ps) (suc i) e lt = start_in ps i e (omega arith)

splits_at : (top : ℕ) (d : Cut) (ps : List Cut) (i : ℕ) (q e : Cut) → i < length (d ∷ ps) → slice_index (starts (d ∷ ps)) i < q.0
    → (i + 1 < length (d ∷ ps) → q.0 < slice_index (starts (d ∷ ps)) (i + 1)) → q.1 ≡ (get_or (d ∷ ps) i e).1 → q.0 ≤ top → Splits top d e ps i q
splits_at top d ps i q e lt low high row le =
    let P : ℕ → Type 0 = λ y. y < q.0 in
    let next : i + 1 ≡ suc i = omega arith in
    record {
      place = omega arith;
      low = subst P (start_in (d ∷ ps) i e lt) low;
      high = λ lt'. (let R : ℕ → Type 0 = λ y. q.0 < y in subst R (ap (λ k. slice_index (starts (d ∷ ps)) k) next ∙ start_in ps i e lt') (high (omega arith)));
      within = le;
      row = row;
    }

pub split_line : (top : ℕ) (spans : List Interval) (line : List Cut) (i : ℕ) (q e : Cut) → i < length line → slice_index (starts line) i < q.0
    → (i + 1 < length line → q.0 < slice_index (starts line) (i + 1)) → q.1 ≡ (get_or line i e).1 → q.0 ≤ top → ChangesAt spans q.0 → IsRising top line → IsSplitOf top spans line (insert line (i + 1) q)
split_line top spans [] i q e lt low high row le ch h = absurd h
split_line top spans (d ∷ ps) i q e lt low high row le ch h =
    let s = splits_at top d ps i q e lt low high row le in
    let P : ℕ → Type 0 = λ a. IsRisingFrom top a ps in
    let r : IsRisingFrom top d.0 ps = subst P (sym h.0) h.1 in
    let Q : ℕ → Type 0 = λ a. IsRisingFrom top a (insert ps i q) in
    let R : ℕ → Type 0 = λ k. IsSplitOf top spans (d ∷ ps) (insert (d ∷ ps) k q) in
    let next : suc i ≡ i + 1 = omega arith in
    subst R next (record {
      rising = (h.0, subst Q h.0 (split_rising top d e ps i q s r));
      same = λ y. row_in_first d (insert ps i q) y h.0 ∙ split_says top d e ps i q s r y ∙ sym (row_in_first d ps y h.0);
      keeps = λ y t. elim t [ inl eq ↦ inl eq | inr u ↦ inr (split_keeps ps i q y u) ];
      only = λ y t. elim t [ inl eq ↦ inl (inl eq) | inr u ↦ elim (split_only ps i q (suc y) u) [ inl s ↦ inl (inr s) | inr eq ↦ inr (ch y eq) ] ];
    })

pub split_same : (top : ℕ) (spans : List Interval) (line : List Cut) → IsRising top line → IsSplitOf top spans line line
split_same top spans line h = record { rising = h; same = λ y. refl; keeps = λ y t. t; only = λ y t. inl t }

pub split_starts_at : (line : List Cut) (i : ℕ) (q : Cut) → i < length line → StartsAt q.0 (insert line (i + 1) q)
split_starts_at line i q lt = split_starts line (i + 1) q (omega arith)

pub starts_here : (line : List Cut) (i x : ℕ) → i < length line → slice_index (starts line) i ≡ x → StartsAt x line
starts_here [] i x lt e = absurd (omega arith)
starts_here (p ∷ ps) zero x lt e = inl (sym e)
starts_here (p ∷ ps) (suc i) x lt e = inr (starts_here ps i x (omega arith) e)

first_least : (top : ℕ) (d : Cut) (ps : List Cut) (i : ℕ) → IsRisingFrom top d.0 ps → i ≤ length ps → d.0 ≤ slice_index (starts (d ∷ ps)) i
first_least top d ps zero r le = omega arith
first_least top d [] (suc i) r le = absurd (omega arith)
first_least top d (p ∷ ps) (suc i) r le = omega (arith, r.0, first_least top p ps i r.2 (omega arith))

none_between : (top x : ℕ) (d : Cut) (ps : List Cut) (i : ℕ) → IsRisingFrom top d.0 ps → i ≤ length ps → slice_index (starts (d ∷ ps)) i < x
    → (i < length ps → x < slice_index (starts ps) i) → StartsAt x (d ∷ ps) → ⊥
none_between top x d [] zero r le low high s = elim s [ inl e ↦ absurd (omega arith) | inr t ↦ t ]
none_between top x d (p ∷ ps) zero r le low high s =
    let lt : x < p.0 = high (omega arith) in
    elim s [ inl e ↦ absurd (omega arith) | inr t ↦ elim t [ inl e ↦ absurd (omega arith) | inr u ↦ (let gt : p.0 < x = starts_above top p.0 x ps r.2 u in absurd (omega arith)) ] ]
none_between top x d [] (suc i) r le low high s = absurd (omega arith)
none_between top x d (p ∷ ps) (suc i) r le low high s =
    let least : p.0 ≤ slice_index (starts (p ∷ ps)) i = first_least top p ps i r.2 (omega arith) in
    elim s [ inl e ↦ absurd (omega (arith, r.0)) | inr t ↦ none_between top x p ps i r.2 (omega arith) low (λ lt. high (omega arith)) t ]

pub no_piece_between : (top x : ℕ) (line : List Cut) (i : ℕ) → IsRising top line → i < length line → slice_index (starts line) i < x
    → (i + 1 < length line → x < slice_index (starts line) (i + 1)) → StartsAt x line → ⊥
no_piece_between top x [] i h lt low high s = s
no_piece_between top x (d ∷ ps) i h lt low high s =
    let P : ℕ → Type 0 = λ a. IsRisingFrom top a ps in
    let next : i + 1 ≡ suc i = omega arith in
    let R : ℕ → Type 0 = λ y. x < y in
    none_between top x d ps i (subst P (sym h.0) h.1) (omega arith) low (λ lt'. subst R (ap (λ k. slice_index (starts (d ∷ ps)) k) next) (high (omega arith))) s

-- ---- what `split` knows where it splits: i is the place of x in the pieces

pub record IsIn (line : List Cut) (x i : ℕ) : Type 0 where
  pub within : i < length line
  pub high : i + 1 < length line → x < slice_index (starts line) (i + 1)

pub split_done : (line new : List Cut) (x i : ℕ) → IsIn line x i → slice_index (starts line) i < x → new ≡ insert line (i + 1) (x, row_of line i)
    → (top : ℕ) (spans : List Interval) → x ≤ top → ChangesAt spans x → IsRising top line → IsSplitOf top spans line new
split_done line new x i h lt is top spans le ch r =
    let P : List Cut → Type 0 = λ cs. IsSplitOf top spans line cs in
    subst P (sym is) (split_line top spans line i (x, row_of line i) (0, []) h.within lt h.high refl le ch r)

pub split_done_starts : (line new : List Cut) (x i : ℕ) → IsIn line x i → new ≡ insert line (i + 1) (x, row_of line i) → StartsAt x new
split_done_starts line new x i h is = let P : List Cut → Type 0 = λ cs. StartsAt x cs in subst P (sym is) (split_starts_at line i (x, row_of line i) h.within)

pub split_not_there : (line : List Cut) (x i : ℕ) → IsIn line x i → slice_index (starts line) i < x → (top : ℕ) → IsRising top line → StartsAt x line → ⊥
split_not_there line x i h lt top r s = no_piece_between top x line i r h.within lt h.high s

pub split_there : (line : List Cut) (x i : ℕ) → IsIn line x i → slice_index (starts line) i ≡ x → StartsAt x line
split_there line x i h e = starts_here line i x h.within e

-- ---- the piece that a number is in

pub here_at : (top x : ℕ) (d e : Cut) (ps : List Cut) (i : ℕ) → IsRisingFrom top d.0 ps → i ≤ length ps → slice_index (starts (d ∷ ps)) i ≤ x
    → (i < length ps → x < slice_index (starts ps) i) → piece_at d ps x ≡ get_or (d ∷ ps) i e
here_at top x d e [] zero r le low high = refl
here_at top x d e (p ∷ ps) zero r le low high =
    let lt : x < p.0 = high (omega arith) in
    ap (λ (b : Bool). piece_at (cond b p d) ps x) (lt-leb p.0 x lt) ∙ before_all top p.0 d ps x r.2 (omega arith)
here_at top x d e [] (suc i) r le low high = absurd (omega arith)
here_at top x d e (p ∷ ps) (suc i) r le low high =
    let least : p.0 ≤ slice_index (starts (p ∷ ps)) i = first_least top p ps i r.2 (omega arith) in
    ap (λ (b : Bool). piece_at (cond b p d) ps x) (le-leb p.0 x (omega arith)) ∙ here_at top x p e ps i r.2 (omega arith) low (λ lt. high (omega arith))

row_here : (top x : ℕ) (line : List Cut) (e : Cut) (i : ℕ) → IsRising top line → i < length line → slice_index (starts line) i ≤ x
    → (i + 1 < length line → x < slice_index (starts line) (i + 1)) → row_in line x ≡ (get_or line i e).1
row_here top x [] e i r lt low high = absurd r
row_here top x (d ∷ ps) e i r lt low high =
    let P : ℕ → Type 0 = λ a. IsRisingFrom top a ps in
    let next : i + 1 ≡ suc i = omega arith in
    let R : ℕ → Type 0 = λ y. x < y in
    row_in_first d ps x r.0 ∙ ap (λ (c : Cut). c.1)
    (here_at top x d e ps i (subst P (sym r.0) r.1) (omega arith) low (λ lt'. subst R (ap (λ k. slice_index (starts (d ∷ ps)) k) next) (high (omega arith))))

pub row_of_piece : (top x : ℕ) (line : List Cut) (i : ℕ) → IsRising top line → i < length line → slice_index (starts line) i ≤ x
    → (i + 1 < length line → x < slice_index (starts line) (i + 1)) → row_in line x ≡ row_of line i
row_of_piece top x line i r lt low high = row_here top x line (0, []) i r lt low high
