-- Cuts of a line at the ends of a set's intervals: two by one move, as far as the k-th interval, and taken back.
use Rattle.std.proofs.Common.{◌≡◌, ℕ, ◌+◌, ◌<◌, ◌≤◌, Bool, List, [], length, refl, sym, ◌∙◌, ap, arith, ◌-◌, true, get_or, subst, All, ◌≢◌, ◌⊎◌, inl, inr, zero, suc, ◌∷◌}
use Rattle.std.specs.Prelude.{slice_index}
use Rattle.std.specs.List.{insert, remove, zip}
use Rattle.std.proofs.lemmas.List.Edits.{get_or-insert_at, get_or-insert_below, length-insert}
use Rattle.std.proofs.lemmas.List.Elements.{All-nil}
use Rattle.std.proofs.lemmas.Bool.{cases_lt}
use Rattle.fields.specs.declared.numbers.spans.Interval.{Interval}
use Rattle.fields.specs.numbers.Spans.{has, AreSpansFrom}
use Rattle.classify.specs.Line.{starts}
use Rattle.classify.specs.steps.Pieces.{IsRising, IsSplitOf, StartsAt, row_in, IsRisingFrom, Differ, ChangesAt, CutsStart, EndsStart, IsApart}
use Rattle.classify.specs.steps.Edits.{row_of, IsUnsplitAt, IsMergeOf, IsNumber, IsEndOf}
use Rattle.classify.specs.steps.Kept.{IsLine, PiecesAndRoom, most_start}
use Rattle.classify.proofs.laws.line.EditLaws.{Cut, IsIn, start_in, split_done, split_done_starts, split_not_there, split_same, row_in_first, row_of_piece, no_piece_between, starts_here}
use Rattle.classify.proofs.laws.line.LoopLaws.{split_twice, Split, ends_kept, split_done_all, split_next, merge_line_rising, merge_line_says, change_is_end}
use Rattle.classify.proofs.laws.line.ApartLaws.{begins_at, begins_there, differ_from, ends_from_cuts, starts_zero}
use Rattle.classify.proofs.laws.line.KeptLaws.{split_kept}
use Rattle.classify.proofs.laws.line.PieceLaws.{pieces_inserted, remove-insert}
use Rattle.classify.proofs.laws.line.PutLaws.{begins_with_0}
use Rattle.classify.proofs.laws.line.StepLaws.{starts_above, starts_within}

-- ---- A piece cut at two numbers by one move, as one cut and then another.

-- two rising numbers within the k-th piece, which starts at neither
pub record AreWithin (line : List Cut) (k x y : ℕ) : Type 0 where
  pub piece : k < length line
  pub above : slice_index (starts line) k < x
  pub rising : x < y
  pub below : k + 1 < length line → y < slice_index (starts line) (k + 1)

-- the line after the cut at the greater number
abbrev cut_above : List Cut → ℕ → ℕ → List Cut
cut_above line k y = insert line (k + 1) (y, row_of line k)

abbrev pub cut_twice : List Cut → ℕ → ℕ → ℕ → List Cut
cut_twice line k x y = insert (cut_above line k y) (k + 1) (x, row_of line k)

above_long : (line : List Cut) (k y : ℕ) → k < length line → length (cut_above line k y) ≡ length line + 1
above_long line k y lt = length-insert line (k + 1) (y, row_of line k) (omega arith)

-- the piece that was cut stays as it was, and the next one starts at the cut
start_before : (line : List Cut) (k y : ℕ) → k < length line → slice_index (starts (cut_above line k y)) k ≡ slice_index (starts line) k
start_before line k y lt =
    let none : Cut = (0, []) in
    start_in (cut_above line k y) k none (omega (arith, above_long line k y lt)) ∙ ap (λ (p : Cut). p.0) (get_or-insert_below line (k + 1) (y, row_of line k) none k (omega arith) (omega arith))
    ∙ sym (start_in line k none lt)

start_there : (line : List Cut) (k y : ℕ) → k < length line → slice_index (starts (cut_above line k y)) (k + 1) ≡ y
start_there line k y lt =
    let none : Cut = (0, []) in
    start_in (cut_above line k y) (k + 1) none (omega (arith, above_long line k y lt)) ∙ ap (λ (p : Cut). p.0) (get_or-insert_at line (k + 1) (y, row_of line k) none (omega arith))

row_before : (line : List Cut) (k y : ℕ) → k < length line → row_of (cut_above line k y) k ≡ row_of line k
row_before line k y lt = ap (λ (p : Cut). p.1) (get_or-insert_below line (k + 1) (y, row_of line k) (0, []) k (omega arith) (omega arith))

first_in : (line : List Cut) (k x y : ℕ) → AreWithin line k x y → IsIn line y k
first_in line k x y h = record { within = h.piece; high = h.below }

then_in : (line : List Cut) (k x y : ℕ) → AreWithin line k x y → IsIn (cut_above line k y) x k
then_in line k x y h = record { within = omega (arith, above_long line k y h.piece, h.piece); high = λ _. omega (arith, start_there line k y h.piece, h.rising) }

then_above : (line : List Cut) (k x y : ℕ) → AreWithin line k x y → slice_index (starts (cut_above line k y)) k < x
then_above line k x y h = omega (arith, start_before line k y h.piece, h.above)

then_is : (line : List Cut) (k x y : ℕ) → AreWithin line k x y → cut_twice line k x y ≡ insert (cut_above line k y) (k + 1) (x, row_of (cut_above line k y) k)
then_is line k x y h = ap (λ (row : List Bool). insert (cut_above line k y) (k + 1) (x, row)) (sym (row_before line k y h.piece))

-- each of the two cuts is one that a single call makes
pub cut_twice_splits : (line new : List Cut) (k x y top : ℕ) (spans : List Interval) → AreWithin line k x y → new ≡ cut_twice line k x y → y ≤ top → ChangesAt spans x → ChangesAt spans y → IsRising top line → IsSplitOf top spans line new
cut_twice_splits line new k x y top spans h is le at_x at_y r =
    let one = split_done line (cut_above line k y) y k (first_in line k x y h) (omega (arith, h.above, h.rising)) refl top spans le at_y r in
    split_twice _ _ _ _ _ one
    (split_done (cut_above line k y) new x k (then_in line k x y h) (then_above line k x y h) (is ∙ then_is line k x y h) top spans (omega (arith, h.rising, le)) at_x one.rising)

pub cut_twice_starts : (line new : List Cut) (k x y top : ℕ) → AreWithin line k x y → new ≡ cut_twice line k x y → y ≤ top → IsRising top line → StartsAt x new × StartsAt y new
cut_twice_starts line new k x y top h is le r =
    let one = split_done line (cut_above line k y) y k (first_in line k x y h) (omega (arith, h.above, h.rising)) refl top (begins_at y) le (begins_there y) r in
    let two = split_done (cut_above line k y) new x k (then_in line k x y h) (then_above line k x y h) (is ∙ then_is line k x y h) top (begins_at x) (omega (arith, h.rising, le)) (begins_there x) one.rising in
    (split_done_starts _ new x k (then_in line k x y h) (is ∙ then_is line k x y h), two.keeps y (split_done_starts line (cut_above line k y) y k (first_in line k x y h) refl))

-- no piece starts at the lower number before
pub cut_twice_new : (line : List Cut) (k x y top : ℕ) → AreWithin line k x y → IsRising top line → StartsAt x line → ⊥
cut_twice_new line k x y top h r s =
    split_not_there line x k (record { within = h.piece; high = λ lt. omega (arith, h.below lt, h.rising) }) h.above top r s

-- a line cut twice is a line
pub cut_twice_kept : (l : PiecesAndRoom) (k x y n : ℕ) → AreWithin l.pieces k x y → y ≤ most_start → n ≡ l.room.places → (line : List Cut) → line ≡ cut_twice l.pieces k x y → IsLine line n
cut_twice_kept l k x y n h le room line is =
    let mid : PiecesAndRoom = record { pieces = cut_above l.pieces k y; room = l.room; stands = split_kept l k y l.room.places h.piece (omega (arith, h.above, h.rising)) h.below le refl (cut_above l.pieces k y) refl } in
    let i = then_in l.pieces k x y h in
    split_kept mid k x n i.within (then_above l.pieces k x y h) i.high (omega (arith, h.rising, le)) room line (is ∙ then_is l.pieces k x y h)

-- ---- starts and rows apart

pub long_twice : {A : Type 0} (xs ys : List A) (k : ℕ) (x y : A) → k < length xs → ys ≡ insert (insert xs (k + 1) y) (k + 1) x → length ys ≡ length xs + 2
long_twice {A} xs ys k x y lt is =
    let one : length (insert xs (k + 1) y) ≡ length xs + 1 = length-insert xs (k + 1) y (omega arith) in
    omega (arith, ap (λ (zs : List A). length zs) is, length-insert (insert xs (k + 1) y) (k + 1) x (omega (arith, one)), one)

pub taken_back : {A : Type 0} (xs ys zs : List A) (i : ℕ) (x y : A) → i ≤ length xs → ys ≡ insert (insert xs i y) i x → zs ≡ remove ys i → remove zs i ≡ xs
taken_back {A} xs ys zs i x y le made is =
    let one : length (insert xs i y) ≡ length xs + 1 = length-insert xs i y le in
    ap (λ (us : List A). remove us i) (is ∙ ap (λ (us : List A). remove us i) made ∙ remove-insert (insert xs i y) i x (omega (arith, one))) ∙ remove-insert xs i y le

pub pieces_cut_twice : (ss ts : List ℕ) (rs qs : List (List Bool)) (k x y : ℕ) (row : List Bool) (line : List Cut) → length rs ≡ length ss → k < length ss → zip ss rs ≡ line
    → ts ≡ insert (insert ss (k + 1) y) (k + 1) x → qs ≡ insert (insert rs (k + 1) row) (k + 1) row → row ≡ row_of line k → zip ts qs ≡ cut_twice line k x y
pieces_cut_twice ss ts rs qs k x y row line n lt shown e f same =
    let one = pieces_inserted ss (insert ss (k + 1) y) rs (insert rs (k + 1) row) (k + 1) y (row_of line k) row line n (omega arith) shown refl refl same in
    let long : length (insert rs (k + 1) row) ≡ length (insert ss (k + 1) y) = omega (arith, length-insert rs (k + 1) row (omega arith), length-insert ss (k + 1) y (omega arith), n) in
    pieces_inserted (insert ss (k + 1) y) ts (insert rs (k + 1) row) qs (k + 1) x (row_of line k) row (cut_above line k y) long (omega (arith, length-insert ss (k + 1) y (omega arith))) one e f same

-- ---- A line cut at the ends of the gaps between intervals, as far as the k-th interval.

-- all ends of the intervals before the k-th start, and where that begins a piece does
pub record GapSplit (top : ℕ) (spans : List Interval) (d : Interval) (old now : List Cut) (k : ℕ) : Type 0 where
  pub cuts : Split top spans old now (k - 1)
  pub begins : StartsAt (get_or spans (k - 1) d).first now

pub gaps_init : (top : ℕ) (spans own : List Interval) (d : Interval) (line : List Cut) → spans ≡ own → AreSpansFrom top 0 own → has own 0 ≡ true → IsRising top line → GapSplit top spans d line line 1
gaps_init top spans own d line same canonical e rising =
    let P : List Interval → Type 0 = λ all. (get_or all 0 d).first ≡ 0 in
    let Q : ℕ → Type 0 = λ x. StartsAt x line in
    record {
      cuts = record { split = split_same top spans line rising; ends = All-nil (EndsStart top line) };
      begins = subst Q (sym (subst P (sym same) (begins_with_0 top own d canonical e).1)) (starts_zero top line rising);
    }

pub gaps_next : (top : ℕ) (spans : List Interval) (d : Interval) (old now new : List Cut) (k : ℕ) → GapSplit top spans d old now k → 1 ≤ k → k < length spans → IsSplitOf top spans now new
    → StartsAt ((get_or spans (k - 1) d).last + 1) new → StartsAt (get_or spans k d).first new → GapSplit top spans d old new (k + 1)
gaps_next top spans d old now new k h ge lt split after next =
    let e : k - 1 + 1 ≡ k + 1 - 1 = omega (arith, ge) in
    let f : k ≡ k + 1 - 1 = omega arith in
    let P : ℕ → Type 0 = Split top spans old new in
    let Q : ℕ → Type 0 = λ n. StartsAt (get_or spans n d).first new in
    record {
      cuts = subst P e (split_next top spans old now new (k - 1) d h.cuts split (omega (arith, lt)) (split.keeps (get_or spans (k - 1) d).first h.begins, λ _. after));
      begins = subst Q f next;
    }

-- where the last interval doesn't end with the line, a piece starts after it too
pub gaps_done : (top : ℕ) (spans own : List Interval) (d : Interval) (old now new : List Cut) (k : ℕ) → GapSplit top spans d old now k → 1 ≤ k → k ≡ length spans → IsSplitOf top spans now new
    → ((get_or spans (k - 1) d).last < top → StartsAt ((get_or spans (k - 1) d).last + 1) new) → spans ≡ own → CutsStart top own new
gaps_done top spans own d old now new k h ge e split after same =
    let i : k - 1 + 1 ≡ k = omega (arith, ge) in
    let P : ℕ → Type 0 = Split top spans old new in
    split_done_all top spans own old new k (subst P i (split_next top spans old now new (k - 1) d h.cuts split (omega (arith, e, ge)) (split.keeps (get_or spans (k - 1) d).first h.begins, after))) (omega (arith, e)) same

-- where the cuts were there before, all ends of the intervals are there
pub ends_all : (top : ℕ) (spans own : List Interval) (old now : List Cut) → spans ≡ own → AreSpansFrom top 0 own → IsRising top old → CutsStart top own old → IsSplitOf top spans old now → All (EndsStart top now) spans
ends_all top spans own old now same canonical rising cuts split =
    let all = ends_from_cuts top 0 old own canonical (λ x _ le ne. cuts x le ne) (λ _. starts_zero top old rising) in
    let P : List Interval → Type 0 = λ ss. All (EndsStart top old) ss in
    ends_kept top old now spans spans split (subst P (sym same) all)

-- ---- Cuts taken back at the ends of a set's intervals.

pub nothing_unsplit : (P : ℕ → Type 0) (top : ℕ) (line : List Cut) → IsRising top line → ((y : ℕ) → P (suc y) → StartsAt (suc y) line → row_in line y ≢ row_in line (suc y)) → IsUnsplitAt P top line line
nothing_unsplit P top line r apart = record { rising = r; same = λ x. refl; only = λ x s. s; apart = apart }

pub unsplit_twice : (P Q : ℕ → Type 0) (top : ℕ) (a b c : List Cut) → IsUnsplitAt P top a b → IsUnsplitAt Q top b c → (R : ℕ → Type 0) → ((x : ℕ) → R x → P x ⊎ Q x) → IsUnsplitAt R top a c
unsplit_twice P Q top a b c g h R either =
    record {
      rising = h.rising;
      same = λ x. h.same x ∙ g.same x;
      only = λ x s. g.only x (h.only x s);
      apart = λ y is s.
          elim (either (suc y) is) [
            | inl p ↦ g.apart y p (h.only (suc y) s)
            | inr q ↦ (λ e. h.apart y q s (g.same y ∙ e ∙ sym (g.same (suc y))))
          ];
    }

-- ---- a piece taken out

starts_left : (line : List Cut) (i x : ℕ) → StartsAt x (remove line i) → StartsAt x line
starts_left [] zero x s = s
starts_left [] (suc i) x s = s
starts_left (p ∷ ps) zero x s = inr s
starts_left (p ∷ ps) (suc i) x s = elim s [ inl e ↦ inl e | inr t ↦ inr (starts_left ps i x t) ]

gone_from : (top a : ℕ) (ps : List Cut) (i : ℕ) → IsRisingFrom top a ps → i < length ps → StartsAt (slice_index (starts ps) i) (remove ps i) → ⊥
gone_from top a [] i r lt s = absurd (omega arith)
gone_from top a (p ∷ ps) zero r lt s = let gt : p.0 < p.0 = starts_above top p.0 p.0 ps r.2 s in absurd (omega arith)
gone_from top a (p ∷ ps) (suc i) r lt s =
    elim s [
      | inl e ↦ (let gt : p.0 < slice_index (starts ps) i = starts_above top p.0 (slice_index (starts ps) i) ps r.2 (starts_here ps i (slice_index (starts ps) i) (omega arith) refl) in absurd (omega arith))
      | inr t ↦ gone_from top p.0 ps i r.2 (omega arith) t
    ]

gone : (top : ℕ) (line : List Cut) (j : ℕ) → IsRising top line → suc j < length line → StartsAt (slice_index (starts line) (suc j)) (remove line (suc j)) → ⊥
gone top [] j r lt s = r
gone top (d ∷ ps) j r lt s =
    elim s [
      | inl e ↦ (let gt : 0 < slice_index (starts ps) j = starts_above top 0 (slice_index (starts ps) j) ps r.1 (starts_here ps j (slice_index (starts ps) j) (omega arith) refl) in absurd (omega (arith, r.0)))
      | inr t ↦ gone_from top 0 ps j r.1 (omega arith) t
    ]

rise_from : (top a : ℕ) (ps : List Cut) (j : ℕ) → IsRisingFrom top a ps → suc j < length ps → slice_index (starts ps) j < slice_index (starts ps) (suc j)
rise_from top a [] j r lt = absurd (omega arith)
rise_from top a (p ∷ []) j r lt = absurd (omega arith)
rise_from top a (p ∷ (q ∷ ps)) zero r lt = r.2.0
rise_from top a (p ∷ (q ∷ ps)) (suc j) r lt = rise_from top p.0 (q ∷ ps) j r.2 (omega arith)

rise : (top : ℕ) (line : List Cut) (j : ℕ) → IsRising top line → suc j < length line → slice_index (starts line) j < slice_index (starts line) (suc j)
rise top [] j r lt = absurd r
rise top (d ∷ []) j r lt = absurd (omega arith)
rise top (d ∷ (p ∷ ps)) zero r lt = omega (arith, r.0, r.1.0)
rise top (d ∷ (p ∷ ps)) (suc j) r lt = rise_from top 0 (p ∷ ps) j r.1 (omega arith)

-- ---- what `unsplit` does at x, which is in the piece at i

-- no piece starts there
pub unsplit_none : (line : List Cut) (x i : ℕ) → IsIn line x i → slice_index (starts line) i < x → (top : ℕ) → IsRising top line → IsUnsplitAt (IsNumber x) top line line
unsplit_none line x i h lt top r =
    let P : ℕ → Type 0 = λ y. StartsAt y line in
    nothing_unsplit (IsNumber x) top line r (λ y e s. absurd (split_not_there line x i h lt top r (subst P e s)))

-- x is in the first piece
zero_first : (top : ℕ) (line : List Cut) → IsRising top line → slice_index (starts line) 0 ≡ 0
zero_first top [] r = absurd r
zero_first top (d ∷ ps) r = r.0

first_alone : (x : ℕ) (line : List Cut) → IsIn line x 0 → (top : ℕ) → IsRising top line → IsUnsplitAt (IsNumber x) top line line
first_alone x line h top r =
    let P : ℕ → Type 0 = λ v. StartsAt v line in
    nothing_unsplit (IsNumber x) top line r (λ y e s. absurd (no_piece_between top x line 0 r h.within (omega (arith, zero_first top line r, e)) h.high (subst P e s)))

pub unsplit_first : (line : List Cut) (x i : ℕ) → IsIn line x i → i ≡ 0 → (top : ℕ) → IsRising top line → IsUnsplitAt (IsNumber x) top line line
unsplit_first line x i h z = let P : ℕ → Type 0 = λ k. IsIn line x k in first_alone x line (subst P z h)

-- one starts there, and it isn't the first
pub record Sides (line : List Cut) (x i : ℕ) : Type 0 where
  pub at : IsIn line x i
  pub start : slice_index (starts line) i ≡ x
  pub later : 0 < i

-- the rows on its two sides
sides_rows : (line : List Cut) (x i : ℕ) → Sides line x i → (top : ℕ) → IsRising top line
    → (y : ℕ) → suc y ≡ x → (row_in line y ≡ row_of line (i - 1)) × (row_in line (suc y) ≡ row_of line i)
sides_rows line x i h top r y e =
    let lt : i < length line = h.at.within in
    let back : suc (i - 1) ≡ i = omega (arith, h.later) in
    let next : i - 1 + 1 ≡ i = omega (arith, h.later) in
    let P : ℕ → Type 0 = λ k. slice_index (starts line) (i - 1) < slice_index (starts line) k in
    let less : slice_index (starts line) (i - 1) < slice_index (starts line) i = subst P back (rise top line (i - 1) r (omega arith)) in
    let Q : ℕ → Type 0 = λ k. y < slice_index (starts line) k in (
      row_of_piece top y line (i - 1) r (omega arith) (omega (arith, h.start)) (λ _. subst Q (sym next) (omega (arith, h.start))),
      row_of_piece top (suc y) line i r lt (omega (arith, h.start)) (λ l. (let far : x < slice_index (starts line) (i + 1) = h.at.high l in omega arith)),
    )

pub unsplit_kept : (line : List Cut) (x i j : ℕ) → Sides line x i → i ≡ j + 1 → (row_of line j ≡ row_of line (j + 1) → ⊥) → (top : ℕ) → IsRising top line → IsUnsplitAt (IsNumber x) top line line
unsplit_kept line x i j h is ne top r =
    let before : i - 1 ≡ j = omega arith in
    nothing_unsplit (IsNumber x) top line r (λ y e s same.
    (let rows = sides_rows line x i h top r y e in
    ne (ap (λ k. row_of line k) (sym before) ∙ sym rows.0 ∙ same ∙ rows.1 ∙ ap (λ k. row_of line k) is)))

pub unsplit_gone : (line new : List Cut) (x i j : ℕ) → Sides line x i → i ≡ j + 1 → row_of line j ≡ row_of line (j + 1) → new ≡ remove line i → (top : ℕ) → IsRising top line → IsUnsplitAt (IsNumber x) top line new
unsplit_gone line new x i j h at equal is top r =
    let back : i ≡ suc j = omega arith in
    let next : j + 1 ≡ suc j = omega arith in
    let lt : suc j < length line = omega (arith, h.at.within) in
    let st : slice_index (starts line) (suc j) ≡ x = ap (λ k. slice_index (starts line) k) (sym back) ∙ h.start in
    let P : List Cut → Type 0 = λ cs. IsUnsplitAt (IsNumber x) top line cs in
    let Q : ℕ → Type 0 = λ y. StartsAt y (remove line (suc j)) in
    subst P (sym (is ∙ ap (λ k. remove line k) back))
    (record {
      rising = merge_line_rising top line j r;
      same = merge_line_says top line j r lt (equal ∙ ap (λ k. row_of line k) next);
      only = λ y s. starts_left line (suc j) y s;
      apart = λ y e s. absurd (gone top line j r lt (subst Q (e ∙ sym st) s));
    })

-- ---- the ends of one interval, and of those below i

pub ends_unsplit : (top : ℕ) (s : Interval) (a b c : List Cut) → IsUnsplitAt (IsNumber s.first) top a b → IsUnsplitAt (IsNumber (s.last + 1)) top b c → IsUnsplitAt (IsEndOf s) top a c
ends_unsplit top s a b c g h = unsplit_twice (IsNumber s.first) (IsNumber (s.last + 1)) top a b c g h (IsEndOf s) (λ x e. e)

none_above : (top : ℕ) (line : List Cut) (x : ℕ) → IsRising top line → StartsAt x line → x ≤ top
none_above top [] x r s = absurd r
none_above top (d ∷ ps) x r s = elim s [ inl e ↦ omega (arith, r.0) | inr t ↦ starts_within top 0 x ps r.1 t ]

pub end_unsplit : (top : ℕ) (s : Interval) (a b : List Cut) → IsUnsplitAt (IsNumber s.first) top a b → top ≤ s.last → IsUnsplitAt (IsEndOf s) top a b
end_unsplit top s a b g le =
    ends_unsplit top s a b b g (nothing_unsplit (IsNumber (s.last + 1)) top b g.rising (λ y e st. absurd (let w : suc y ≤ top = none_above top b (suc y) g.rising st in omega arith)))

abbrev pub no_span : Interval
no_span = record { first = 0; last = 0 }

abbrev pub IsEndBelow : List Interval → ℕ → ℕ → Type 0
IsEndBelow spans i x = (k : ℕ) × (k < i) × IsEndOf (get_or spans k no_span) x

pub unsplit_more : (spans : List Interval) (top i : ℕ) (a b c : List Cut) → IsUnsplitAt (IsEndBelow spans i) top a b → IsUnsplitAt (IsEndOf (get_or spans i no_span)) top b c → IsUnsplitAt (IsEndBelow spans (i + 1)) top a c
unsplit_more spans top i a b c g h =
    unsplit_twice (IsEndBelow spans i) (IsEndOf (get_or spans i no_span)) top a b c g h (IsEndBelow spans (i + 1))
    (λ x e.
    elim (cases_lt e.0 i) [
      | inl lt ↦ inl (e.0, lt, e.2)
      | inr ge ↦ (
          let is : e.0 ≡ i = omega (arith, e.1) in
          let P : ℕ → Type 0 = λ k. IsEndOf (get_or spans k no_span) x in
          inr (subst P is e.2))
    ])

differ_of_line : (top : ℕ) (line : List Cut) → IsRising top line → ((y : ℕ) → StartsAt (suc y) line → row_in line y ≢ row_in line (suc y)) → Differ line
differ_of_line top [] r apart = tt
differ_of_line top (d ∷ ps) r apart =
    let P : ℕ → Type 0 = λ a. IsRisingFrom top a ps in
    differ_from top d ps (subst P (sym r.0) r.1) (λ y s same. apart y (inr s) (row_in_first d ps y r.0 ∙ same ∙ sym (row_in_first d ps (suc y) r.0)))

pub unsplit_done : (spans : List Interval) (top i : ℕ) (old new : List Cut) → IsUnsplitAt (IsEndBelow spans i) top old new → length spans ≤ i → IsApart spans old → IsMergeOf top old new
unsplit_done spans top i old new h le apart =
    record {
      rising = h.rising;
      same = h.same;
      differ = differ_of_line top new h.rising (λ y s same.
          (let e : row_in old y ≡ row_in old (suc y) = sym (h.same y) ∙ same ∙ h.same (suc y) in
          elim (apart y (h.only (suc y) s)) [
            | inl ne ↦ ne e
            | inr ne ↦ (let r = change_is_end spans no_span y ne in h.apart y (r.0, omega (arith, r.1), r.2) s e)
          ]));
    }
