-- The line of a list of boxes is the steps of the row of their answers, and the line that is computed is that one.
use Rattle.std.proofs.Common.{◌≡◌, ◌≢◌, ◌⊎◌, inl, inr, ℕ, zero, suc, ◌+◌, ◌-◌, ◌<◌, ◌≤◌, Bool, true, false, cond, not, ◌&&◌, ◌||◌, eqb, leb, List, [], ◌∷◌, length, get_or, refl, sym, ◌∙◌, ap, arith, subst, All, Any, add-one, map}
use Rattle.std.specs.Prelude.{◌==◌}
use Rattle.std.specs.List.Sorted.{IsStrictlyIncreasing}
use Rattle.std.proofs.lemmas.Bool.{cases_Bool, false≢true, true≢false, ne_eqb, eq-eqb, eqb-true, le-leb, leb-true, or_right, cases_eq}
use Rattle.std.proofs.lemmas.List.Elements.{All-head, All-tail, All-cons, All-nil}
use Rattle.std.proofs.lemmas.List.Folds.{Any-from_list_any, list_any-from_Any}
use Rattle.std.specs.List.{filter, range_with_len}
use Rattle.classify.specs.Line.{row_at, some_differs, is_cut, starts, starts_at, IsLineOf, line_of}
use Rattle.classify.specs.steps.Pieces.{IsRisingFrom, StartsAt}
use Rattle.classify.proofs.laws.line.StepLaws.{EachPiece, AreStepsOf, starts_within, step_over, one_list_of_steps, starts_above}

-- ---- The line of a list of boxes is the steps of the row of their answers.

abbrev Piece : Type 0
Piece = ℕ × List Bool

-- ---- the words of the definition, by recursion

or_rest : (a b : Bool) → a ≡ false → (a || b) ≡ true → b ≡ true
or_rest true b f t = absurd (true≢false f)
or_rest false b f t = t

pub and_first_true : (a b : Bool) → (a && b) ≡ true → a ≡ true
and_first_true true b t = refl
and_first_true false b t = t

pub and_second_true : (a b : Bool) → (a && b) ≡ true → b ≡ true
and_second_true true b t = t
and_second_true false b t = absurd (true≢false (sym t))

pub starts_from_test : (x : ℕ) (ps : List Piece) → starts_at ps x ≡ true → StartsAt x ps
starts_from_test x [] t = absurd (true≢false (sym t))
starts_from_test x (p ∷ ps) t =
    elim (cases_Bool (eqb p.0 x)) [
      | inl here ↦ inl (sym (eqb-true p.0 x here))
      | inr other ↦ inr (starts_from_test x ps (or_rest (eqb p.0 x) (starts_at ps x) other t))
    ]

pub test_from_starts : (x : ℕ) (ps : List Piece) → StartsAt x ps → starts_at ps x ≡ true
test_from_starts x [] s = absurd s
test_from_starts x (p ∷ ps) s =
    elim s [
      | inl e ↦ ap (λ b. b || starts_at ps x) (eq-eqb p.0 x (sym e))
      | inr t ↦ or_right (eqb p.0 x) (starts_at ps x) (test_from_starts x ps t)
    ]

-- the cuts of the definition, as two implications
pub cut_started : {B : Type 0} (allows : B → ℕ → Bool) (top : ℕ) (boxes : List B) (line : List Piece) (x : ℕ) → IsLineOf allows top boxes line → StartsAt x line → (x ≤ top) × (is_cut allows boxes x ≡ true)
cut_started allows top boxes line x h s =
    let both : (leb x top && is_cut allows boxes x) ≡ true = sym (h.cuts x) ∙ test_from_starts x line s in
    (leb-true x top (and_first_true (leb x top) (is_cut allows boxes x) both), and_second_true (leb x top) (is_cut allows boxes x) both)

pub start_of_cut : {B : Type 0} (allows : B → ℕ → Bool) (top : ℕ) (boxes : List B) (line : List Piece) (x : ℕ) → IsLineOf allows top boxes line → x ≤ top → is_cut allows boxes x ≡ true → StartsAt x line
start_of_cut allows top boxes line x h le cut =
    starts_from_test x line (h.cuts x ∙ ap (λ b. b && is_cut allows boxes x) (le-leb x top le) ∙ cut)

-- two tests that hold together are equal
pub same_tests : (a b : Bool) → (a ≡ true → b ≡ true) → (b ≡ true → a ≡ true) → a ≡ b
same_tests true b f g = sym (f refl)
same_tests false true f g = g refl
same_tests false false f g = refl

cuts_from : {B : Type 0} (allows : B → ℕ → Bool) (top : ℕ) (boxes : List B) (line : List Piece) (x : ℕ) → (StartsAt x line → (x ≤ top) × (is_cut allows boxes x ≡ true))
    → (x ≤ top → is_cut allows boxes x ≡ true → StartsAt x line) → starts_at line x ≡ (leb x top && is_cut allows boxes x)
cuts_from allows top boxes line x f g =
    same_tests (starts_at line x) (leb x top && is_cut allows boxes x)
    (λ t. (let c = f (starts_from_test x line t) in ap (λ b. b && is_cut allows boxes x) (le-leb x top c.0) ∙ c.1))
    (λ t. test_from_starts x line (g (leb-true x top (and_first_true (leb x top) (is_cut allows boxes x) t)) (and_second_true (leb x top) (is_cut allows boxes x) t)))

next-get : (a : ℕ) (xs : List ℕ) (k : ℕ) → get_or (a ∷ xs) (k + 1) 0 ≡ get_or xs k 0
next-get a xs k = ap (λ j. get_or (a ∷ xs) j 0) (add-one k)

pub rising_from_increasing : (top a : ℕ) (ps : List Piece) → IsStrictlyIncreasing (a ∷ starts ps) → ((x : ℕ) → StartsAt x ps → x ≤ top) → IsRisingFrom top a ps
rising_from_increasing top a [] h w = tt
rising_from_increasing top a (p ∷ ps) h w =
    let rest : IsStrictlyIncreasing (p.0 ∷ starts ps) =
    λ k lt.
    (let e : suc k ≡ k + 1 = omega arith in
    let s : get_or (a ∷ p.0 ∷ starts ps) (suc k) 0 < get_or (a ∷ p.0 ∷ starts ps) (suc k + 1) 0 = h (suc k) (omega arith) in
    let P : ℕ → Type 0 = λ y. get_or (p.0 ∷ starts ps) k 0 < y in
    subst P (next-get a (p.0 ∷ starts ps) (suc k) ∙ ap (λ j. get_or (p.0 ∷ starts ps) j 0) e) s) in
    (h 0 (omega arith), w p.0 (inl refl), rising_from_increasing top p.0 ps rest (λ x s. w x (inr s)))

pub increasing_from_rising : (top a : ℕ) (ps : List Piece) → IsRisingFrom top a ps → IsStrictlyIncreasing (a ∷ starts ps)
increasing_from_rising top a [] h k lt = absurd (omega arith)
increasing_from_rising top a (p ∷ ps) h zero lt = h.0
increasing_from_rising top a (p ∷ ps) h (suc k) lt =
    let e : k + 1 ≡ suc k = omega arith in
    let s : get_or (p.0 ∷ starts ps) k 0 < get_or (p.0 ∷ starts ps) (k + 1) 0 = increasing_from_rising top p.0 ps h.2 k (omega arith) in
    let P : ℕ → Type 0 = λ y. get_or (p.0 ∷ starts ps) k 0 < y in
    subst P (ap (λ j. get_or (p.0 ∷ starts ps) j 0) e ∙ sym (next-get a (p.0 ∷ starts ps) (suc k))) s

-- ---- some box allows exactly one of two numbers where their rows differ, and nowhere else

pub cases_same : (a b : Bool) → (a ≡ b) ⊎ (a ≢ b)
cases_same true true = inl refl
cases_same false false = inl refl
cases_same true false = inr true≢false
cases_same false true = inr false≢true

pub cases_row : {B : Type 0} (allows : B → ℕ → Bool) (boxes : List B) (x y : ℕ) → (row_at allows boxes x ≡ row_at allows boxes y) ⊎ Any (λ b. allows b x ≢ allows b y) boxes
cases_row allows [] x y = inl refl
cases_row allows (b ∷ bs) x y =
    elim (cases_same (allows b x) (allows b y)) [
      | inr ne ↦ inr (0, b, omega arith, refl, ne)
      | inl e ↦ elim (cases_row allows bs x y) [
        | inl same ↦ inl (λ i. e i ∷ same i)
        | inr other ↦ inr (suc other.0, other.1, omega (arith, other.2), other.3, other.4)
      ]
    ]

rows_apart : {B : Type 0} (allows : B → ℕ → Bool) (boxes : List B) (x y : ℕ) (k : ℕ) (b : B) → k < length boxes → get_or boxes k b ≡ b → allows b x ≢ allows b y
    → row_at allows boxes x ≢ row_at allows boxes y
rows_apart allows [] x y k b lt is ne same = absurd (omega arith)
rows_apart allows (c ∷ cs) x y zero b lt is ne same =
    let e : allows c x ≡ allows c y = cc in
    ne (sym (ap (λ d. allows d x) is) ∙ e ∙ ap (λ d. allows d y) is)
rows_apart allows (c ∷ cs) x y (suc k) b lt is ne same =
    let e : row_at allows cs x ≡ row_at allows cs y = cc in
    rows_apart allows cs x y k b (omega arith) is ne e

pub differs_from_any : {B : Type 0} (allows : B → ℕ → Bool) (boxes : List B) (x y : ℕ) → Any (λ b. allows b x ≢ allows b y) boxes → row_at allows boxes x ≢ row_at allows boxes y
differs_from_any allows boxes x y h = rows_apart allows boxes x y h.0 h.1 h.2 h.3 h.4

pub any_from_differs : {B : Type 0} (allows : B → ℕ → Bool) (boxes : List B) (x y : ℕ) → row_at allows boxes x ≢ row_at allows boxes y → Any (λ b. allows b x ≢ allows b y) boxes
any_from_differs allows boxes x y ne = elim (cases_row allows boxes x y) [ inl same ↦ absurd (ne same) | inr other ↦ other ]

pub cases_rows : {B : Type 0} (allows : B → ℕ → Bool) (boxes : List B) (x : ℕ) → (row_at allows boxes x ≡ row_at allows boxes (suc x)) ⊎ (row_at allows boxes x ≢ row_at allows boxes (suc x))
cases_rows allows boxes x = elim (cases_row allows boxes x (suc x)) [ inl same ↦ inl same | inr other ↦ inr (differs_from_any allows boxes x (suc x) other) ]

below : (x : ℕ) → suc x - 1 ≡ x
below x = omega arith

-- exactly one of two answers is yes where they differ
differ_test : (a b : Bool) → a ≢ b → cond a (not b) b ≡ true
differ_test true true ne = absurd (ne refl)
differ_test true false ne = refl
differ_test false true ne = refl
differ_test false false ne = absurd (ne refl)

equal_test : (a : Bool) → cond a (not a) a ≡ false
equal_test true = refl
equal_test false = refl

differ_from_test : (a b : Bool) → cond a (not b) b ≡ true → a ≢ b
differ_from_test a b t e = true≢false (sym t ∙ ap (λ c. cond a (not c) c) (sym e) ∙ equal_test a)

some_from_any : {B : Type 0} (allows : B → ℕ → Bool) (boxes : List B) (x y : ℕ) → Any (λ b. allows b x ≢ allows b y) boxes → some_differs allows boxes x y ≡ true
some_from_any allows boxes x y h =
    list_any-from_Any (λ b. cond (allows b x) (not (allows b y)) (allows b y)) boxes (h.0, h.1, h.2, h.3, differ_test (allows h.1 x) (allows h.1 y) h.4)

any_from_some : {B : Type 0} (allows : B → ℕ → Bool) (boxes : List B) (x y : ℕ) → some_differs allows boxes x y ≡ true → Any (λ b. allows b x ≢ allows b y) boxes
any_from_some allows boxes x y t =
    let h = Any-from_list_any (λ b. cond (allows b x) (not (allows b y)) (allows b y)) boxes t in
    (h.0, h.1, h.2, h.3, differ_from_test (allows h.1 x) (allows h.1 y) h.4)

pub zero_is_cut : {B : Type 0} (allows : B → ℕ → Bool) (boxes : List B) → is_cut allows boxes 0 ≡ true
zero_is_cut allows boxes = refl

above_zero : (x : ℕ) → (suc x == 0) ≡ false
above_zero x = let ne : suc x ≢ 0 = omega arith in ne_eqb (suc x) 0 ne

-- above 0 a number is a cut where the rows differ
pub cut_from_differs : {B : Type 0} (allows : B → ℕ → Bool) (boxes : List B) (x : ℕ) → row_at allows boxes x ≢ row_at allows boxes (suc x) → is_cut allows boxes (suc x) ≡ true
cut_from_differs allows boxes x ne =
    or_right (suc x == 0) (some_differs allows boxes (suc x - 1) (suc x))
    (ap (λ y. some_differs allows boxes y (suc x)) (below x) ∙ some_from_any allows boxes x (suc x) (any_from_differs allows boxes x (suc x) ne))

pub differs_from_cut : {B : Type 0} (allows : B → ℕ → Bool) (boxes : List B) (x : ℕ) → is_cut allows boxes (suc x) ≡ true → row_at allows boxes x ≢ row_at allows boxes (suc x)
differs_from_cut allows boxes x t =
    differs_from_any allows boxes x (suc x) (any_from_some allows boxes x (suc x)
    (sym (ap (λ y. some_differs allows boxes y (suc x)) (below x)) ∙ or_rest (suc x == 0) (some_differs allows boxes (suc x - 1) (suc x)) (above_zero x) t))

-- ---- the line is the steps of the rows, and the other way round

each_from_all : (P : Piece → Type 0) (ps : List Piece) → All P ps → EachPiece P ps
each_from_all P [] h = tt
each_from_all P (p ∷ ps) h = (All-head P p ps h, each_from_all P ps (All-tail P p ps h))

all_from_each : (P : Piece → Type 0) (ps : List Piece) → EachPiece P ps → All P ps
all_from_each P [] h = All-nil P
all_from_each P (p ∷ ps) h = All-cons P p ps h.0 (all_from_each P ps h.1)

-- the line, as one piece and those after it
abbrev pub AreSteps : (ℕ → List Bool) → ℕ → List Piece → Type 0
AreSteps f top [] = ⊥
AreSteps f top (d ∷ ps) = AreStepsOf f top d ps

pub line_from_steps : {B : Type 0} (allows : B → ℕ → Bool) (top : ℕ) (boxes : List B) (line : List Piece) → AreSteps (row_at allows boxes) top line → IsLineOf allows top boxes line
line_from_steps allows top boxes [] h = absurd h
line_from_steps allows top boxes (d ∷ ps) h =
    let P : ℕ → Type 0 = λ a. IsStrictlyIncreasing (a ∷ starts ps) in
    let f : ℕ → List Bool = row_at allows boxes in
    record {
      rising = subst P (sym h.zero_first) (increasing_from_rising top 0 ps h.rising);
      cuts = λ x. cuts_from allows top boxes (d ∷ ps) x
          (λ s.
          elim s [
            | inl e ↦ (let z : x ≡ 0 = e ∙ h.zero_first in (omega arith, ap (λ y. is_cut allows boxes y) z ∙ zero_is_cut allows boxes))
            | inr t ↦ (
              starts_within top 0 x ps h.rising t,
              step_over (λ y. StartsAt y ps → is_cut allows boxes y ≡ true) (λ u. absurd (let lt : 0 < 0 = starts_above top 0 0 ps h.rising u in omega arith)) (λ y u. cut_from_differs allows boxes y (h.starts y u)) x t,
            )
          ])
          (λ le cut. step_over (λ y. y ≤ top → is_cut allows boxes y ≡ true → StartsAt y (d ∷ ps)) (λ _ _. inl (sym h.zero_first))
          (λ y le c. inr (h.all y le (differs_from_cut allows boxes y c))) x le cut);
      rows = all_from_each (λ (p : Piece). p.1 ≡ row_at allows boxes p.0) (d ∷ ps) (h.first, h.rows);
    }

pub steps_from_line : {B : Type 0} (allows : B → ℕ → Bool) (top : ℕ) (boxes : List B) (line : List Piece) → IsLineOf allows top boxes line → AreSteps (row_at allows boxes) top line
steps_from_line allows top boxes [] h =
    start_of_cut allows top boxes [] 0 h (omega arith) refl
steps_from_line allows top boxes (d ∷ ps) h =
    let r = each_from_all (λ (p : Piece). p.1 ≡ row_at allows boxes p.0) (d ∷ ps) h.rows in
    let within : (x : ℕ) → StartsAt x (d ∷ ps) → x ≤ top = λ x s. (cut_started allows top boxes (d ∷ ps) x h s).0 in
    let rising : IsRisingFrom top d.0 ps = rising_from_increasing top d.0 ps h.rising (λ x s. within x (inr s)) in
    let k : StartsAt 0 (d ∷ ps) = start_of_cut allows top boxes (d ∷ ps) 0 h (omega arith) refl in
    let z : d.0 ≡ 0 = elim k [ inl e ↦ sym e | inr s ↦ absurd (let lt : d.0 < 0 = starts_above top d.0 0 ps rising s in omega arith) ] in
    let P : ℕ → Type 0 = λ a. IsRisingFrom top a ps in
    record {
      zero_first = z;
      rising = subst P z rising;
      starts = λ x s. differs_from_cut allows boxes x (cut_started allows top boxes (d ∷ ps) (suc x) h (inr s)).1;
      all = λ x le ne. elim (start_of_cut allows top boxes (d ∷ ps) (suc x) h le (cut_from_differs allows boxes x ne)) [
        | inl e ↦ absurd (let q : suc x ≡ 0 = e ∙ z in omega arith)
        | inr s ↦ s
      ];
      first = r.0;
      rows = r.1;
    }

-- boxes have one line
pub one_line : {B : Type 0} (allows : B → ℕ → Bool) (top : ℕ) (boxes : List B) (line other : List Piece) → IsLineOf allows top boxes line → IsLineOf allows top boxes other → line ≡ other
one_line allows top boxes [] other g h = absurd (steps_from_line allows top boxes [] g)
one_line allows top boxes (d ∷ ps) [] g h = absurd (steps_from_line allows top boxes [] h)
one_line allows top boxes (d ∷ ps) (e ∷ qs) g h =
    one_list_of_steps (row_at allows boxes) top d e ps qs (steps_from_line allows top boxes (d ∷ ps) g) (steps_from_line allows top boxes (e ∷ qs) h)

-- ---- a line asks of each number up to the top alone

steps_alike : (f h : ℕ → List Bool) (top : ℕ) (d : Piece) (ps : List Piece) → ((x : ℕ) → x ≤ top → f x ≡ h x) → AreStepsOf f top d ps → AreStepsOf h top d ps
steps_alike f h top d ps same s = record {
  zero_first = s.zero_first;
  rising = s.rising;
  starts = λ x st e.
      (let within : suc x ≤ top = starts_within top 0 (suc x) ps s.rising st in
      s.starts x st (same x (omega arith) ∙ e ∙ sym (same (suc x) within)));
  all = λ x le ne. s.all x le (λ e. ne (sym (same x (omega arith)) ∙ e ∙ same (suc x) le));
  first = s.first ∙ same d.0 (omega (arith, s.zero_first));
  rows = rows_alike 0 ps s.rising s.rows;
}
  where
    rows_alike : (a : ℕ) (qs : List Piece) → IsRisingFrom top a qs → EachPiece (λ p. p.1 ≡ f p.0) qs → EachPiece (λ p. p.1 ≡ h p.0) qs
    rows_alike a [] r rows = tt
    rows_alike a (q ∷ qs) r rows = (rows.0 ∙ same q.0 r.1, rows_alike q.0 qs r.2 rows.1)

-- things that allow the same numbers up to the top have one line: boxes and the rules that they were made of
pub line_alike : {B : Type 0} {C : Type 0} (allows : B → ℕ → Bool) (allowed : C → ℕ → Bool) (top : ℕ) (boxes : List B) (rules : List C) (line : List Piece)
    → ((x : ℕ) → x ≤ top → row_at allows boxes x ≡ row_at allowed rules x) → IsLineOf allows top boxes line → IsLineOf allowed top rules line
line_alike allows allowed top boxes rules [] same h = absurd (steps_from_line allows top boxes [] h)
line_alike allows allowed top boxes rules (d ∷ ps) same h =
    line_from_steps allowed top rules (d ∷ ps) (steps_alike (row_at allows boxes) (row_at allowed rules) top d ps same (steps_from_line allows top boxes (d ∷ ps) h))

-- ---- The line that is computed is the one line of the boxes.

-- one more piece, where the test holds
abbrev more : Bool → Piece → List Piece → List Piece
more b p ps = cond b (p ∷ ps) ps

map_more : (f : ℕ → Piece) (b : Bool) (x : ℕ) (xs : List ℕ) → map f (cond b (x ∷ xs) xs) ≡ more b (f x) (map f xs)
map_more f true x xs = refl
map_more f false x xs = refl

rising_more : (top a : ℕ) (b : Bool) (p : Piece) (ps : List Piece) → a < p.0 → p.0 ≤ top → IsRisingFrom top p.0 ps → IsRisingFrom top a ps → IsRisingFrom top a (more b p ps)
rising_more top a true p ps lt le above here = (lt, le, above)
rising_more top a false p ps lt le above here = here

starts_more : (b : Bool) (p : Piece) (ps : List Piece) (x : ℕ) → StartsAt x (more b p ps) → ((b ≡ true) × (x ≡ p.0)) ⊎ StartsAt x ps
starts_more true p ps x s = elim s [ inl e ↦ inl (refl, e) | inr t ↦ inr t ]
starts_more false p ps x s = inr s

starts_first : (b : Bool) (p : Piece) (ps : List Piece) → b ≡ true → StartsAt p.0 (more b p ps)
starts_first true p ps t = inl refl
starts_first false p ps t = absurd (true≢false (sym t))

starts_later : (b : Bool) (p : Piece) (ps : List Piece) (x : ℕ) → StartsAt x ps → StartsAt x (more b p ps)
starts_later true p ps x s = inr s
starts_later false p ps x s = s

each_more : (P : Piece → Type 0) (b : Bool) (p : Piece) (ps : List Piece) → P p → EachPiece P ps → EachPiece P (more b p ps)
each_more P true p ps h hs = (h, hs)
each_more P false p ps h hs = hs

-- ---- the cuts among n numbers from one on

module _ {B : Type 0} (allows : B → ℕ → Bool) (boxes : List B) where
  abbrev piece : ℕ → Piece
  piece x = (x, row_at allows boxes x)

  abbrev pieces : ℕ → ℕ → List Piece
  pieces low n = map piece (filter (is_cut allows boxes) (range_with_len low n))

  one_more : (low n : ℕ) → pieces low (suc n) ≡ more (is_cut allows boxes low) (piece low) (pieces (low + 1) n)
  one_more low n = map_more piece (is_cut allows boxes low) low (filter (is_cut allows boxes) (range_with_len (low + 1) n))

  rising : (top a low n : ℕ) → a < low → low + n ≤ suc top → IsRisingFrom top a (pieces low n)
  rising top a low zero lt le = tt
  rising top a low (suc n) lt le =
      let P : List Piece → Type 0 = λ ps. IsRisingFrom top a ps in
      let w : low + 1 + n ≤ suc top = omega arith in
      subst P (sym (one_more low n))
      (rising_more top a (is_cut allows boxes low) (piece low) (pieces (low + 1) n) lt (omega arith) (rising top low (low + 1) n (omega arith) w) (rising top a (low + 1) n (omega arith) w))

  starts_are_cuts : (low n x : ℕ) → StartsAt x (pieces low n) → (low ≤ x) × (is_cut allows boxes x ≡ true)
  starts_are_cuts low zero x s = absurd s
  starts_are_cuts low (suc n) x s =
      let P : List Piece → Type 0 = λ ps. StartsAt x ps in
      elim (starts_more (is_cut allows boxes low) (piece low) (pieces (low + 1) n) x (subst P (one_more low n) s)) [
        | inl here ↦ (omega (arith, here.1), ap (is_cut allows boxes) here.1 ∙ here.0)
        | inr later ↦ (let h = starts_are_cuts (low + 1) n x later in (omega (arith, h.0), h.1))
      ]

  cuts_start : (low n x : ℕ) → low ≤ x → x < low + n → is_cut allows boxes x ≡ true → StartsAt x (pieces low n)
  cuts_start low zero x le lt cut = absurd (omega arith)
  cuts_start low (suc n) x le lt cut =
      let P : List Piece → Type 0 = λ ps. StartsAt x ps in
      let ps : List Piece = more (is_cut allows boxes low) (piece low) (pieces (low + 1) n) in
      let Q : ℕ → Type 0 = λ y. StartsAt y ps in
      subst P (sym (one_more low n))
      (elim (cases_eq x low) [
        | inl e ↦ subst Q (sym e) (starts_first (is_cut allows boxes low) (piece low) (pieces (low + 1) n) (ap (is_cut allows boxes) (sym e) ∙ cut))
        | inr ne ↦ starts_later (is_cut allows boxes low) (piece low) (pieces (low + 1) n) x (cuts_start (low + 1) n x (omega arith) (omega arith) cut)
      ])

  rows_are : (low n : ℕ) → EachPiece (λ p. p.1 ≡ row_at allows boxes p.0) (pieces low n)
  rows_are low zero = tt
  rows_are low (suc n) =
      let R : Piece → Type 0 = λ p. p.1 ≡ row_at allows boxes p.0 in
      let P : List Piece → Type 0 = λ ps. EachPiece R ps in
      subst P (sym (one_more low n)) (each_more R (is_cut allows boxes low) (piece low) (pieces (low + 1) n) refl (rows_are (low + 1) n))

  all_steps : (top : ℕ) → AreStepsOf (row_at allows boxes) top (piece 0) (pieces 1 top)
  all_steps top = record {
    zero_first = refl;
    rising = rising top 0 1 top (omega arith) (omega arith);
    starts = λ x s. differs_from_cut allows boxes x (starts_are_cuts 1 top (suc x) s).1;
    all = λ x le ne. cuts_start 1 top (suc x) (omega arith) (omega arith) (cut_from_differs allows boxes x ne);
    first = refl;
    rows = rows_are 1 top;
  }

  line_from_all : (top : ℕ) → IsLineOf allows top boxes (line_of allows top boxes)
  unfolding line_of
  line_from_all top =
      let P : ℕ → Type 0 = λ n. IsLineOf allows top boxes (pieces 0 n) in
      subst P (sym (add-one top)) (line_from_steps allows top boxes (pieces 0 (suc top)) (all_steps top))

pub line_of_is_line : {B : Type 0} (allows : B → ℕ → Bool) (top : ℕ) (boxes : List B) → IsLineOf allows top boxes (line_of allows top boxes)
line_of_is_line allows top boxes = line_from_all allows boxes top

pub is_line_of : {B : Type 0} (allows : B → ℕ → Bool) (top : ℕ) (boxes : List B) (line : List Piece) → IsLineOf allows top boxes line → line ≡ line_of allows top boxes
is_line_of allows top boxes line h = one_line allows top boxes line (line_of allows top boxes) h (line_of_is_line allows top boxes)
