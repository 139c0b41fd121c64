-- Whole lines: each box allows every number of their field, and then they stay whole.
use Rattle.fields.specs.declared.numbers.spans.Interval.{Interval}
use Rattle.std.proofs.Common.{◌≡◌, ◌↔◌, inl, inr, ℕ, suc, ◌+◌, ◌<◌, ◌≤◌, Bool, true, false, cond, List, [], ◌∷◌, ◌++◌, length, length-append, take, drop, get_or, replicate, All, refl, sym, ◌∙◌, arith, subst}
use Rattle.std.specs.List.{insert, remove}
use lib.ListN.{get_or-eq_default}
use Rattle.std.proofs.Math.ListN.{get_or-append, set}
use Rattle.std.proofs.Math.Seq.{get_or-append_seam}
use Rattle.std.proofs.Math.Dec.{leb}
use Rattle.std.proofs.lemmas.Bool.{cases_eq, cases_lt, true≢false}
use Rattle.std.proofs.lemmas.List.{get_or_default, get_or-set_other, get_or-set_same, length-map, length-replicate, same_lists}
use Rattle.std.proofs.lemmas.List.Elements.{All-append, All-cons, All-drop, All-head, All-map, All-nil, All-push, All-replicate, All-same, All-set, All-tail, All-take, All-weaker}
use Rattle.fields.specs.numbers.Spans.{SpanSet, has, AreSpansFrom}
use Rattle.fields.proofs.laws.numbers.SpanLaws.{has_above, has_first, none_below}
use Rattle.classify.specs.Line.{IsLineOf, row_at}
use Rattle.classify.specs.steps.Fields.{InsertsSet, LosesBox, ReplacesSet}
use Rattle.classify.specs.steps.Kept.{IsSound, PiecesAndRoom, AreUnmarked, IsAmong, IsEverything, IsWhole}
use Rattle.classify.specs.steps.Pieces.{IsRising, IsRisingFrom, piece_at, row_in}
use Rattle.fields.specs.declared.numbers.field.TheConstants.{FIELDS}
use Rattle.classify.proofs.laws.line.BoxLaws.{rising_from_line, steps_of_line}
use Rattle.classify.proofs.laws.line.KeptLaws.{said_long}
use Rattle.classify.proofs.laws.line.LineLaws.{line_from_steps}

abbrev Cut : Type 0
Cut = ℕ × List Bool

abbrev IsOn : Bool → Type 0
IsOn bit = bit ≡ true

-- ---- what a whole line says

row_on : (first : Cut) (line : List Cut) (x : ℕ) → All IsOn first.1 → All (λ (p : Cut). All IsOn p.1) line → All IsOn (piece_at first line x).1
row_on first [] x h hs = h
row_on first (p ∷ ps) x h hs =
    let P : Cut → Type 0 = λ q. All IsOn q.1 in
    let here : P (cond (leb p.0 x) p first) = elim (leb p.0 x) as (λ (b : Bool). P (cond b p first)) [ true ↦ All-head P p ps hs | false ↦ h ] in
    row_on (cond (leb p.0 x) p first) ps x here (All-tail P p ps hs)

-- every bit of each number
pub said_on : (l : PiecesAndRoom) (x : ℕ) → IsWhole l → All IsOn (row_in l.pieces x)
said_on l x whole = row_on (0, []) l.pieces x (All-nil IsOn) whole

-- ---- a line is whole where each set has every number

abbrev AllowsAll : ℕ → List Interval → Type 0
AllowsAll top set = (x : ℕ) → x ≤ top → has set x ≡ true

everything : ℕ → List Interval
everything top = record { first = 0; last = top } ∷ []

everything_has : (top : ℕ) → AllowsAll top (everything top)
unfolding everything
everything_has top x le = has_first (record { first = 0; last = top }) [] x (omega arith) le

row_of_all : (top x : ℕ) (sets : List (List Interval)) → x ≤ top → All (AllowsAll top) sets → All IsOn (row_at has sets x)
row_of_all top x sets le h = All-map IsOn (λ s. has s x) sets (All-weaker (AllowsAll top) (λ s. IsOn (has s x)) (λ s all. all x le) sets h)

starts_within : (top a : ℕ) (ps : List Cut) → IsRisingFrom top a ps → All (λ (p : Cut). p.0 ≤ top) ps
starts_within top a [] r = All-nil (λ (p : Cut). p.0 ≤ top)
starts_within top a (p ∷ ps) r = All-cons (λ (p : Cut). p.0 ≤ top) p ps r.1 (starts_within top p.0 ps r.2)

line_within : (top : ℕ) (line : List Cut) → IsRising top line → All (λ (p : Cut). p.0 ≤ top) line
line_within top [] r = absurd r
line_within top (p ∷ ps) r = All-cons (λ (p : Cut). p.0 ≤ top) p ps (omega (arith, r.0)) (starts_within top 0 ps r.1)

whole_from_line : (top : ℕ) (sets : List (List Interval)) (l : PiecesAndRoom) → IsLineOf has top sets l.pieces → All (AllowsAll top) sets → IsWhole l
whole_from_line top sets l h all k d lt =
    let within = line_within top l.pieces (rising_from_line top sets l.pieces h) k d lt in
    All-same IsOn _ _ (h.rows k d lt) (row_of_all top (get_or l.pieces k d).0 sets within all)

-- ---- a whole line is that of as many sets that have every number

same_on : (n : ℕ) (xs ys : List Bool) → length xs ≡ n → length ys ≡ n → All IsOn xs → All IsOn ys → xs ≡ ys
same_on n xs ys m k h g = same_lists xs ys (m ∙ sym k) (λ j d lt. h j d lt ∙ sym (g j d (omega arith)))

all_sets : (top n : ℕ) → All (AllowsAll top) (replicate n (everything top))
all_sets top n = All-replicate (AllowsAll top) n (everything top) (everything_has top)

line_of_whole : (top n : ℕ) (l : PiecesAndRoom) → IsSound top n l → IsWhole l → IsLineOf has top (replicate n (everything top)) l.pieces
line_of_whole top n l s whole =
    let sets : List (List Interval) = replicate n (everything top) in
    line_from_steps has top sets l.pieces (steps_of_line (row_at has sets) top l.pieces s.rising s.differ (λ x le.
    same_on n (row_in l.pieces x) (row_at has sets x) (said_long l x ∙ s.bits) (length-map sets (λ s. has s x) ∙ length-replicate n (everything top)) (said_on l x whole) (row_of_all top x sets le (all_sets top n))))

-- ---- edits

pub whole_inserted : (n at : ℕ) (s : SpanSet) (l m : PiecesAndRoom) → IsSound s.top n l → IsWhole l → IsEverything s → InsertsSet at s l m → IsWhole m
whole_inserted n at s l m sound whole all edit =
    let sets : List (List Interval) = replicate n (everything s.top) in
    let old = all_sets s.top n in
    whole_from_line s.top (insert sets at s.intervals) m (edit sets (line_of_whole s.top n l sound whole))
    (All-append (AllowsAll s.top) (take at sets) (s.intervals ∷ drop at sets) (All-take (AllowsAll s.top) at sets old) (All-cons (AllowsAll s.top) s.intervals (drop at sets) all (All-drop (AllowsAll s.top) at sets old)))

pub whole_replaced : (n at : ℕ) (s : SpanSet) (l m : PiecesAndRoom) → IsSound s.top n l → IsWhole l → IsEverything s → ReplacesSet at s l m → IsWhole m
whole_replaced n at s l m sound whole all edit =
    let sets : List (List Interval) = replicate n (everything s.top) in
    whole_from_line s.top (set sets at s.intervals) m (edit sets (line_of_whole s.top n l sound whole)) (All-set (AllowsAll s.top) sets at s.intervals all (all_sets s.top n))

pub whole_removed : (top n at : ℕ) (l m : PiecesAndRoom) → IsSound top n l → IsWhole l → LosesBox at l m → IsWhole m
whole_removed top n at l m sound whole edit =
    let sets : List (List Interval) = replicate n (everything top) in
    let old = all_sets top n in
    whole_from_line top (remove sets at) m (edit.line top sets (line_of_whole top n l sound whole))
    (All-append (AllowsAll top) (take at sets) (drop (suc at) sets) (All-take (AllowsAll top) at sets old) (All-drop (AllowsAll top) (suc at) sets old))

-- a line that shows the same is as whole
pub whole_same : (l m : PiecesAndRoom) → m.pieces ≡ l.pieces → IsWhole l → IsWhole m
whole_same l m e whole = All-same (λ (p : Cut). All IsOn p.1) m.pieces l.pieces e whole

-- a line of no box is whole
pub whole_empty : (m : PiecesAndRoom) → m.pieces ≡ (0, []) ∷ [] → IsWhole m
whole_empty m e = All-same (λ (p : Cut). All IsOn p.1) m.pieces ((0, []) ∷ []) e (All-cons (λ (p : Cut). All IsOn p.1) (0, []) [] (All-nil IsOn) (All-nil (λ (p : Cut). All IsOn p.1)))

-- ---- a set of every number is one interval

pub one_interval : (top : ℕ) (ss : List Interval) → AreSpansFrom top 0 ss → AllowsAll top ss → length ss ≡ 1
one_interval top [] h all = absurd (true≢false (sym (all 0 (omega arith))))
one_interval top (s ∷ []) h all = refl
one_interval top (s ∷ t ∷ ss) h all =
    let gap : has (s ∷ t ∷ ss) (s.last + 1) ≡ false = has_above s (t ∷ ss) (s.last + 1) (omega arith) ∙ none_below top (s.last + 2) (s.last + 1) (t ∷ ss) h.3 (omega arith) in
    absurd (true≢false (sym (all (s.last + 1) (omega (arith, h.3.0, h.3.1, h.3.2))) ∙ gap))

pub all_between : (top : ℕ) (ss : List Interval) → AreSpansFrom top 0 ss → length ss ≡ 1 → has ss 0 ≡ true → has ss top ≡ true → AllowsAll top ss
all_between top [] h n low high = absurd (omega arith)
all_between top (s ∷ t ∷ ss) h n low high = absurd (omega arith)
all_between top (s ∷ []) h n low high = λ x le.
    let first : s.first ≤ 0 = elim (cases_lt 0 s.first) [ inl lt ↦ absurd (true≢false (sym low ∙ none_below top s.first 0 (s ∷ []) (omega arith, h.1, h.2, tt) lt)) | inr ge ↦ ge ] in
    let last : top ≤ s.last = elim (cases_lt s.last top) [ inl lt ↦ absurd (true≢false (sym high ∙ has_above s [] top lt)) | inr ge ↦ ge ] in
    has_first s [] x (omega arith) (omega arith)

-- ---- marks, as far as one of them

-- those up to it that stay are of sets that have every number
abbrev pub AreLeft : List Bool → List SpanSet → ℕ → List Bool → Type 0
AreLeft old spans k now = (j : ℕ) (s : SpanSet) → IsOn (get_or now j false) ↔ (IsOn (get_or old j false) × (j < k → IsEverything (get_or spans j s)))

pub mark_stays : (old now : List Bool) (spans : List SpanSet) (k : ℕ) (d : SpanSet) → k < length spans → IsEverything (get_or spans k d) → AreLeft old spans k now → AreLeft old spans (k + 1) now
mark_stays old now spans k d lt all h j s = (
  λ on. (
    ((h j s).0 on).0,
    λ below. elim (cases_eq j k) [
      | inl e ↦ (let P : SpanSet → Type 0 = IsEverything in let Q : ℕ → Type 0 = λ i. IsEverything (get_or spans i s) in subst Q (sym e) (subst P (get_or_default spans k d s lt) all))
      | inr ne ↦ ((h j s).0 on).1 (omega arith)
    ],
  ),
  λ both. (h j s).1 (both.0, λ below. both.1 (omega arith)),
)

pub mark_goes : (old now : List Bool) (spans : List SpanSet) (k : ℕ) (d : SpanSet) → k < length spans → k < length now → (IsEverything (get_or spans k d) → ⊥) → AreLeft old spans k now
    → AreLeft old spans (k + 1) (set now k false)
mark_goes old now spans k d lt in' none h j s =
    elim (cases_eq j k) [
      | inl e ↦ (
          let P : ℕ → Type 0 = λ i. IsOn (get_or (set now k false) i false) ↔ (IsOn (get_or old i false) × (i < k + 1 → IsEverything (get_or spans i s))) in
          let Q : SpanSet → Type 0 = IsEverything in
          subst P (sym e) (
            λ on. absurd (true≢false (sym on ∙ get_or-set_same now k false false in')),
            λ both. absurd (none (subst Q (get_or_default spans k s d lt) (both.1 (omega arith)))),
          ))
      | inr ne ↦ (
          let same = get_or-set_other now k j false false ne in (
            λ on. (let was = (h j s).0 (sym same ∙ on) in (was.0, λ below. was.1 (omega arith))),
            λ both. same ∙ (h j s).1 (both.0, λ below. both.1 (omega arith)),
          ))
    ]

pub marks_left : (old now : List Bool) (spans : List SpanSet) (k : ℕ) → length now ≡ length old → length old ≤ k → AreLeft old spans k now → (j : ℕ) (s : SpanSet)
    → IsOn (get_or now j false) ↔ (IsOn (get_or old j false) × IsEverything (get_or spans j s))
marks_left old now spans k long le h j s = (
  λ on.
      (let was = (h j s).0 on in
      elim (cases_lt j k) [ inl lt ↦ (was.0, was.1 lt) | inr ge ↦ absurd (true≢false (sym was.0 ∙ get_or-eq_default old false {n = j} (omega arith))) ]),
  λ both. (h j s).1 (both.0, λ _. both.1),
)

-- ---- the places of lines that aren't marked, as far as one of them

among_more : (xs : List ℕ) (x k : ℕ) → IsAmong xs k → IsAmong (xs ++ x ∷ []) k
among_more xs x k a = (a.0, omega (arith, a.1, length-append xs (x ∷ [])), get_or-append xs (x ∷ []) 0 a.0 a.1 ∙ a.2)

among_last : (xs : List ℕ) (x : ℕ) → IsAmong (xs ++ x ∷ []) x
among_last xs x = (length xs, omega (arith, length-append xs (x ∷ [])), get_or-append_seam xs x [] 0)

pub one_unmarked : (marks : List Bool) (k : ℕ) (places : List ℕ) → k < FIELDS → AreUnmarked marks k places → AreUnmarked marks (k + 1) (places ++ k ∷ [])
one_unmarked marks k places lt h = record {
  few = omega (arith, h.few, length-append places (k ∷ []));
  fields = All-push (λ j. j < FIELDS) places k h.fields lt;
  every = λ j below off.
      elim (cases_lt j k) [
        | inl before ↦ among_more places k j (h.every j before off)
        | inr past ↦ (let e : j ≡ k = omega arith in let P : ℕ → Type 0 = λ i. IsAmong (places ++ k ∷ []) i in subst P (sym e) (among_last places k))
      ];
}

pub mark_passed : (marks : List Bool) (k : ℕ) (places : List ℕ) → IsOn (get_or marks k false) → AreUnmarked marks k places → AreUnmarked marks (k + 1) places
mark_passed marks k places on h = record {
  few = omega (arith, h.few);
  fields = h.fields;
  every = λ j below off.
      elim (cases_lt j k) [
        | inl before ↦ h.every j before off
        | inr past ↦ (let e : j ≡ k = omega arith in let P : ℕ → Type 0 = λ i. IsOn (get_or marks i false) in absurd (true≢false (sym (subst P (sym e) on) ∙ off)))
      ];
}
