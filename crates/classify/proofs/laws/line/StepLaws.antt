-- Laws of the pieces of a line.
use Rattle.std.proofs.Common.{◌≡◌, ◌≢◌, ◌⊎◌, inl, inr, ℕ, zero, suc, ◌<◌, ◌≤◌, Bool, true, false, cond, List, [], ◌∷◌, refl, sym, ◌∙◌, ap, arith, subst}
use Rattle.std.proofs.Math.Dec.{leb}
use Rattle.std.proofs.lemmas.Bool.{le-leb, lt-leb, cases_lt, cases_eq}
use Rattle.classify.specs.steps.Pieces.{piece_at, IsRisingFrom, DifferFrom, StartsAt}

abbrev Piece : Type 0
Piece = ℕ × List Bool

-- P holds of each piece
abbrev pub EachPiece : (Piece → Type 0) → List Piece → Type 0
EachPiece P [] = Unit {0}
EachPiece P (p ∷ ps) = P p × EachPiece P ps

-- no piece starts at or before x
pub before_all : (top a : ℕ) (d : Piece) (ps : List Piece) (x : ℕ) → IsRisingFrom top a ps → x ≤ a → piece_at d ps x ≡ d
before_all top a d [] x h le = refl
before_all top a d (p ∷ ps) x h le =
    ap (λ (b : Bool). piece_at (cond b p d) ps x) (lt-leb p.0 x (omega (arith, h.0))) ∙ before_all top p.0 d ps x h.2 (omega (arith, h.0))

pub starts_above : (top a x : ℕ) (ps : List Piece) → IsRisingFrom top a ps → StartsAt x ps → a < x
starts_above top a x [] h s = absurd s
starts_above top a x (p ∷ ps) h s = elim s [ inl e ↦ omega (arith, h.0, e) | inr t ↦ omega (arith, h.0, starts_above top p.0 x ps h.2 t) ]

pub starts_within : (top a x : ℕ) (ps : List Piece) → IsRisingFrom top a ps → StartsAt x ps → x ≤ top
starts_within top a x [] h s = absurd s
starts_within top a x (p ∷ ps) h s = elim s [ inl e ↦ omega (arith, h.1, e) | inr t ↦ starts_within top p.0 x ps h.2 t ]

pub cases_starts : (x : ℕ) (ps : List Piece) → StartsAt x ps ⊎ (StartsAt x ps → ⊥)
cases_starts x [] = inr (λ s. s)
cases_starts x (p ∷ ps) =
    elim (cases_eq x p.0) [
      | inl e ↦ inl (inl e)
      | inr n ↦ elim (cases_starts x ps) [ inl s ↦ inl (inr s) | inr m ↦ inr (λ t. elim t [ inl e ↦ n e | inr s ↦ m s ]) ]
    ]

-- where no piece starts, nothing changes
pub nothing_changes : (d : Piece) (ps : List Piece) (x : ℕ) → (StartsAt (suc x) ps → ⊥) → piece_at d ps (suc x) ≡ piece_at d ps x
nothing_changes d [] x n = refl
nothing_changes d (p ∷ ps) x n =
    let e : leb p.0 (suc x) ≡ leb p.0 x =
    elim (cases_lt x p.0) [
      | inl lt ↦ (let ne : suc x ≢ p.0 = λ e. n (inl e) in let lt' : suc x < p.0 = omega arith in lt-leb p.0 (suc x) lt' ∙ sym (lt-leb p.0 x lt))
      | inr le ↦ (let le' : p.0 ≤ suc x = omega arith in le-leb p.0 (suc x) le' ∙ sym (le-leb p.0 x le))
    ] in
    ap (λ (b : Bool). piece_at (cond b p d) ps (suc x)) e ∙ nothing_changes (cond (leb p.0 x) p d) ps x (λ s. n (inr s))

-- where a piece starts, the row changes
pub row_changes : (top : ℕ) (d : Piece) (ps : List Piece) (x : ℕ) → IsRisingFrom top d.0 ps → DifferFrom d.1 ps → StartsAt (suc x) ps
    → (piece_at d ps x).1 ≢ (piece_at d ps (suc x)).1
row_changes top d [] x h n s = absurd s
row_changes top d (p ∷ ps) x h n s =
    elim s [
      | inl e ↦ (
          let lt : x < p.0 = omega arith in
          let le : p.0 ≤ suc x = omega arith in
          let le2 : x ≤ p.0 = omega arith in
          let le3 : suc x ≤ p.0 = omega arith in
          let here : piece_at d (p ∷ ps) x ≡ d = ap (λ (b : Bool). piece_at (cond b p d) ps x) (lt-leb p.0 x lt) ∙ before_all top p.0 d ps x h.2 le2 in
          let next : piece_at d (p ∷ ps) (suc x) ≡ p = ap (λ (b : Bool). piece_at (cond b p d) ps (suc x)) (le-leb p.0 (suc x) le) ∙ before_all top p.0 p ps (suc x) h.2 le3 in
          λ same. n.0 (sym (ap (λ (q : Piece). q.1) here) ∙ same ∙ ap (λ (q : Piece). q.1) next))
      | inr t ↦ (
          let gt : p.0 < suc x = starts_above top p.0 (suc x) ps h.2 t in
          let le : p.0 ≤ x = omega arith in
          let le' : p.0 ≤ suc x = omega arith in
          let here : piece_at d (p ∷ ps) x ≡ piece_at p ps x = ap (λ (b : Bool). piece_at (cond b p d) ps x) (le-leb p.0 x le) in
          let next : piece_at d (p ∷ ps) (suc x) ≡ piece_at p ps (suc x) = ap (λ (b : Bool). piece_at (cond b p d) ps (suc x)) (le-leb p.0 (suc x) le') in
          λ same. row_changes top p ps x h.2 n.1 t (sym (ap (λ (q : Piece). q.1) here) ∙ same ∙ ap (λ (q : Piece). q.1) next))
    ]

-- the piece at a start starts there
pub piece_at_start : (top : ℕ) (d : Piece) (ps : List Piece) (x : ℕ) → IsRisingFrom top d.0 ps → StartsAt x ps → (piece_at d ps x).0 ≡ x
piece_at_start top d [] x h s = absurd s
piece_at_start top d (p ∷ ps) x h s =
    elim s [
      | inl e ↦ (
          let le : p.0 ≤ x = omega arith in
          let le3 : x ≤ p.0 = omega arith in
          ap (λ (q : Piece). q.0) (ap (λ (b : Bool). piece_at (cond b p d) ps x) (le-leb p.0 x le) ∙ before_all top p.0 p ps x h.2 le3) ∙ sym e)
      | inr t ↦ (
          let gt : p.0 < x = starts_above top p.0 x ps h.2 t in
          let le : p.0 ≤ x = omega arith in
          ap (λ (b : Bool). (piece_at (cond b p d) ps x).0) (le-leb p.0 x le) ∙ piece_at_start top p ps x h.2 t)
    ]

-- the piece at a number is one of the pieces
pub piece_at_each : (P : Piece → Type 0) (d : Piece) (ps : List Piece) (x : ℕ) → P d → EachPiece P ps → P (piece_at d ps x)
piece_at_each P d [] x h hs = h
piece_at_each P d (p ∷ ps) x h hs =
    let here : P (cond (leb p.0 x) p d) = elim (leb p.0 x) as (λ (b : Bool). P (cond b p d)) [ true ↦ hs.0 | false ↦ h ] in
    piece_at_each P (cond (leb p.0 x) p d) ps x here hs.1

-- a fact for 0 and for each number above
pub step_over : (P : ℕ → Type 0) → P 0 → ((x : ℕ) → P (suc x)) → (x : ℕ) → P x
step_over P z s zero = z
step_over P z s (suc x) = s x

-- ---- a function of the numbers up to the top, and its steps

-- pieces above a are those of f
pub record AreStepsOf (f : ℕ → List Bool) (top : ℕ) (d : Piece) (ps : List Piece) : Type 0 where
  pub zero_first : d.0 ≡ 0
  pub rising : IsRisingFrom top 0 ps
  pub starts : (x : ℕ) → StartsAt (suc x) ps → f x ≢ f (suc x)
  pub all : (x : ℕ) → suc x ≤ top → f x ≢ f (suc x) → StartsAt (suc x) ps
  pub first : d.1 ≡ f d.0
  pub rows : EachPiece (λ p. p.1 ≡ f p.0) ps

pub rows_from : (f : ℕ → List Bool) (top a : ℕ) (d : Piece) (ps : List Piece) → IsRisingFrom top a ps → a ≤ top → ((x : ℕ) → a ≤ x → x ≤ top → (piece_at d ps x).1 ≡ f x)
    → EachPiece (λ p. p.1 ≡ f p.0) ps
rows_from f top a d [] h le same = tt
rows_from f top a d (p ∷ ps) h le same =
    let at : piece_at d (p ∷ ps) p.0 ≡ p = ap (λ (b : Bool). piece_at (cond b p d) ps p.0) (le-leb p.0 p.0 (omega arith)) ∙ before_all top p.0 p ps p.0 h.2 (omega arith) in
    let here : p.1 ≡ f p.0 = sym (ap (λ (q : Piece). q.1) at) ∙ same p.0 (omega (arith, h.0)) h.1 in
    let rest : (x : ℕ) → p.0 ≤ x → x ≤ top → (piece_at p ps x).1 ≡ f x =
    λ x ge le'. sym (ap (λ (b : Bool). (piece_at (cond b p d) ps x).1) (le-leb p.0 x ge)) ∙ same x (omega (arith, h.0)) le' in
    (here, rows_from f top p.0 p ps h.2 h.1 rest)

-- pieces that rise, differ, and say what f says, are the steps of f
pub steps_from : (f : ℕ → List Bool) (top : ℕ) (d : Piece) (ps : List Piece) → d.0 ≡ 0 → IsRisingFrom top 0 ps → DifferFrom d.1 ps → ((x : ℕ) → x ≤ top → (piece_at d ps x).1 ≡ f x)
    → AreStepsOf f top d ps
steps_from f top d ps z h n same =
    let P : ℕ → Type 0 = λ a. IsRisingFrom top a ps in
    let h0 : IsRisingFrom top d.0 ps = subst P (sym z) h in
    let le0 : 0 ≤ top = omega arith in
    let le1 : d.0 ≤ 0 = omega arith in
    record {
      zero_first = z;
      rising = h;
      starts = λ x s e.
          (let in1 : suc x ≤ top = starts_within top 0 (suc x) ps h s in
          row_changes top d ps x h0 n s (same x (omega arith) ∙ e ∙ sym (same (suc x) in1)));
      all = λ x le ne.
          elim (cases_starts (suc x) ps) [
            | inl s ↦ s
            | inr m ↦ absurd (ne (sym (same x (omega arith)) ∙ sym (ap (λ (q : Piece). q.1) (nothing_changes d ps x m)) ∙ same (suc x) le))
          ];
      first = sym (ap (λ (q : Piece). q.1) (before_all top 0 d ps d.0 h le1)) ∙ same d.0 (omega arith);
      rows = rows_from f top 0 d ps h le0 (λ x _ le. same x le);
    }

-- the steps of f say what f says, where f either changes or not
pub says_from_steps : (f : ℕ → List Bool) (top : ℕ) (d : Piece) (ps : List Piece) → ((x : ℕ) → (f x ≡ f (suc x)) ⊎ (f x ≢ f (suc x))) → AreStepsOf f top d ps
    → (x : ℕ) → x ≤ top → (piece_at d ps x).1 ≡ f x
says_from_steps f top d ps cases h zero le =
    let le0 : 0 ≤ 0 = omega arith in
    ap (λ (q : Piece). q.1) (before_all top 0 d ps 0 h.rising le0) ∙ h.first ∙ ap f h.zero_first
says_from_steps f top d ps cases h (suc x) le =
    let P : ℕ → Type 0 = λ a. IsRisingFrom top a ps in
    let h0 : IsRisingFrom top d.0 ps = subst P (sym h.zero_first) h.rising in
    let before : (piece_at d ps x).1 ≡ f x = says_from_steps f top d ps cases h x (omega arith) in
    elim (cases_starts (suc x) ps) [
      | inl s ↦ (piece_at_each (λ p. p.1 ≡ f p.0) d ps (suc x) h.first h.rows ∙ ap f (piece_at_start top d ps (suc x) h0 s))
      | inr m ↦ (
          let kept : (piece_at d ps (suc x)).1 ≡ f x = ap (λ (q : Piece). q.1) (nothing_changes d ps x m) ∙ before in
          elim (cases x) [ inl e ↦ kept ∙ e | inr ne ↦ absurd (m (h.all x le ne)) ])
    ]

-- f has one list of steps
same_steps : (f : ℕ → List Bool) (top a b : ℕ) (ps qs : List Piece) → IsRisingFrom top a ps → IsRisingFrom top b qs
    → ((x : ℕ) → StartsAt x ps → StartsAt x qs) → ((x : ℕ) → StartsAt x qs → StartsAt x ps)
    → EachPiece (λ p. p.1 ≡ f p.0) ps → EachPiece (λ p. p.1 ≡ f p.0) qs → ps ≡ qs
same_steps f top a b [] [] g h to from rs ss = refl
same_steps f top a b [] (q ∷ qs) g h to from rs ss = absurd (from q.0 (inl refl))
same_steps f top a b (p ∷ ps) [] g h to from rs ss = absurd (to p.0 (inl refl))
same_steps f top a b (p ∷ ps) (q ∷ qs) g h to from rs ss =
    let le : q.0 ≤ p.0 = elim (to p.0 (inl refl)) [ inl e ↦ omega arith | inr s ↦ omega (arith, starts_above top q.0 p.0 qs h.2 s) ] in
    let ge : p.0 ≤ q.0 = elim (from q.0 (inl refl)) [ inl e ↦ omega arith | inr s ↦ omega (arith, starts_above top p.0 q.0 ps g.2 s) ] in
    let same : p.0 ≡ q.0 = omega arith in
    let rows : p.1 ≡ q.1 = rs.0 ∙ ap f same ∙ sym ss.0 in
    let to' : (x : ℕ) → StartsAt x ps → StartsAt x qs =
    λ x s. elim (to x (inr s)) [ inl e ↦ absurd (let gt : p.0 < x = starts_above top p.0 x ps g.2 s in omega arith) | inr t ↦ t ] in
    let from' : (x : ℕ) → StartsAt x qs → StartsAt x ps =
    λ x s. elim (from x (inr s)) [ inl e ↦ absurd (let gt : q.0 < x = starts_above top q.0 x qs h.2 s in omega arith) | inr t ↦ t ] in
    let heads : p ≡ q = λ i. (same i, rows i) in
    let tails : ps ≡ qs = same_steps f top p.0 q.0 ps qs g.2 h.2 to' from' rs.1 ss.1 in
    λ i. heads i ∷ tails i

pub one_list_of_steps : (f : ℕ → List Bool) (top : ℕ) (d e : Piece) (ps qs : List Piece) → AreStepsOf f top d ps → AreStepsOf f top e qs → d ∷ ps ≡ e ∷ qs
one_list_of_steps f top d e ps qs g h =
    let positive : (x : ℕ) (rs : List Piece) → IsRisingFrom top 0 rs → StartsAt x rs → 0 < x = λ x rs k s. starts_above top 0 x rs k s in
    let to : (x : ℕ) → StartsAt x ps → StartsAt x qs =
    λ x s. step_over (λ y. StartsAt y ps → StartsAt y qs) (λ t. absurd (let lt : 0 < 0 = positive 0 ps g.rising t in omega arith)) (λ y t. h.all y (starts_within top 0 (suc y) ps g.rising t) (g.starts y t)) x s in
    let from : (x : ℕ) → StartsAt x qs → StartsAt x ps =
    λ x s. step_over (λ y. StartsAt y qs → StartsAt y ps) (λ t. absurd (let lt : 0 < 0 = positive 0 qs h.rising t in omega arith)) (λ y t. g.all y (starts_within top 0 (suc y) qs h.rising t) (h.starts y t)) x s in
    let same : d.0 ≡ e.0 = g.zero_first ∙ sym h.zero_first in
    let rows : d.1 ≡ e.1 = g.first ∙ ap f same ∙ sym h.first in
    let tails : ps ≡ qs = same_steps f top 0 0 ps qs g.rising h.rising to from g.rows h.rows in
    let heads : d ≡ e = λ i. (same i, rows i) in
    λ i. heads i ∷ tails i
