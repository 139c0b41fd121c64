-- A box's answers written into the rows of a line, interval by interval.
use Rattle.fields.specs.declared.numbers.spans.Interval.{Interval}
use Rattle.classify.proofs.laws.line.LineLaws.{and_first_true, and_second_true}
use Rattle.std.proofs.Common.{◌≡◌, inl, inr, ℕ, zero, suc, ◌+◌, ◌-◌, ◌<◌, ◌≤◌, ◌||◌, ◌&&◌, Bool, true, false, List, [], ◌∷◌, take, length, get_or, refl, sym, ◌∙◌, ap, arith, subst, map}
use Rattle.std.specs.List.{insert, list_all}
use Rattle.std.specs.Prelude.{slice_index}
use Rattle.std.proofs.Math.ListN.{set}
use Rattle.std.proofs.Math.Dec.{leb}
use Rattle.std.proofs.lemmas.Bool.{le-leb, lt-leb, leb-true, cases_lt, or_right, and_right, false≢true}
use Rattle.std.proofs.lemmas.List.{length-map, get_or-map, same_lists, set-get_or, take_all, take_more}
use Rattle.std.proofs.lemmas.List.Edits.{length-insert, get_or-insert_at}
use Rattle.std.proofs.lemmas.List.Folds.{list_all-append, list_any-append}
use Rattle.fields.specs.numbers.Spans.{has, in_span, AreSpansFrom}
use Rattle.fields.proofs.laws.numbers.SpanLaws.{in_it, none_below, out_above, out_below}
use Rattle.classify.specs.Line.{starts}
use Rattle.classify.specs.steps.Pieces.{CutsStart, IsRising, IsRisingFrom, StartsAt, row_bits}
use Rattle.classify.specs.steps.Kept.{PiecesAndRoom, most_start}
use Rattle.classify.specs.steps.Edits.{with_answer, with_bit, with_test, with_written, row_of, IsRunIn, IsRunWritten}
use Rattle.classify.proofs.laws.line.EditLaws.{Cut}
use Rattle.classify.proofs.laws.line.KeptLaws.{row_long}
use Rattle.classify.proofs.laws.line.ApartLaws.{ends_from_cuts, starts_zero}
use Rattle.classify.proofs.laws.line.KeepApartLaws.{within_at}
use Rattle.classify.proofs.laws.line.LoopLaws.{spans_within}
use Rattle.classify.proofs.laws.line.PieceLaws.{bits_as_long, bits_start, bits_written, start_was}

abbrev none : Cut
none = (0, [])

-- a bit put in and then written
set-insert : (bs : List Bool) (at : ℕ) (a b : Bool) → at ≤ length bs → set (insert bs at a) at b ≡ insert bs at b
set-insert [] zero a b le = refl
set-insert [] (suc at) a b le = absurd (omega arith)
set-insert (c ∷ cs) zero a b le = refl
set-insert (c ∷ cs) (suc at) a b le = ap (λ (bs : List Bool). c ∷ bs) (set-insert cs at a b (omega arith))

-- ---- tests of a number

pub or_false : (a b : Bool) → b ≡ false → (a || b) ≡ a
or_false true b e = refl
or_false false b e = e

both : (a b : Bool) → a ≡ true → (a && b) ≡ b
both a b e = ap (λ (c : Bool). c && b) e

-- one interval more
has_more : (spans : List Interval) (i x : ℕ) (d : Interval) → i < length spans → has (take (i + 1) spans) x ≡ (has (take i spans) x || in_span x (get_or spans i d))
has_more spans i x d lt =
    ap (λ (ss : List Interval). has ss x) (take_more spans i d lt) ∙ list_any-append (in_span x) (take i spans) (get_or spans i d ∷ []) ∙ ap (λ (b : Bool). has (take i spans) x || b) (or_false (in_span x (get_or spans i d)) false refl)

-- whether a number is above each of some intervals
abbrev pub is_past : List Interval → ℕ → Bool
is_past spans x = list_all (λ s. leb (s.last + 1) x) spans

past_more : (spans : List Interval) (i x : ℕ) (d : Interval) → i < length spans → is_past (take (i + 1) spans) x ≡ (is_past (take i spans) x && leb ((get_or spans i d).last + 1) x)
past_more spans i x d lt =
    ap (λ (ss : List Interval). is_past ss x) (take_more spans i d lt) ∙ list_all-append (λ (s : Interval). leb (s.last + 1) x) (take i spans) (get_or spans i d ∷ [])
    ∙ ap (λ (b : Bool). is_past (take i spans) x && b) (and_true (leb ((get_or spans i d).last + 1) x))
  where
    and_true : (b : Bool) → (b && true) ≡ b
    and_true true = refl
    and_true false = refl

past_none : (spans : List Interval) (x : ℕ) → is_past spans x ≡ true → has spans x ≡ false
past_none [] x e = refl
past_none (s ∷ ss) x e =
    let lt : s.last + 1 ≤ x = leb-true (s.last + 1) x (and_first_true (leb (s.last + 1) x) (is_past ss x) e) in
    ap (λ (b : Bool). b || has ss x) (out_above s x (omega arith)) ∙ past_none ss x (and_second_true (leb (s.last + 1) x) (is_past ss x) e)

-- intervals rise: where one begins is past those before it
first_low : (top low : ℕ) (spans : List Interval) (i : ℕ) (d : Interval) → AreSpansFrom top low spans → i < length spans → low ≤ (get_or spans i d).first
first_low top low [] i d h lt = absurd (omega arith)
first_low top low (s ∷ ss) zero d h lt = h.0
first_low top low (s ∷ ss) (suc i) d h lt = omega (arith, h.0, h.1, first_low top (s.last + 2) ss i d h.3 (omega arith))

pub past_first : (top low : ℕ) (spans : List Interval) (i : ℕ) (d : Interval) → AreSpansFrom top low spans → i < length spans → is_past (take i spans) (get_or spans i d).first ≡ true
past_first top low spans zero d h lt = refl
past_first top low [] (suc i) d h lt = absurd (omega arith)
past_first top low (s ∷ ss) (suc i) d h lt =
    both (leb (s.last + 1) (get_or ss i d).first) (is_past (take i ss) (get_or ss i d).first) (le-leb (s.last + 1) (get_or ss i d).first (omega (arith, first_low top (s.last + 2) ss i d h.3 (omega arith))))
    ∙ past_first top (s.last + 2) ss i d h.3 (omega arith)

pub interval_some : (top low : ℕ) (spans : List Interval) (i : ℕ) (d : Interval) → AreSpansFrom top low spans → i < length spans → (get_or spans i d).first ≤ (get_or spans i d).last
interval_some top low [] i d h lt = absurd (omega arith)
interval_some top low (s ∷ ss) zero d h lt = h.1
interval_some top low (s ∷ ss) (suc i) d h lt = interval_some top (s.last + 2) ss i d h.3 (omega arith)

-- ---- what holds of the line while answers are written

pub now_place : (at : ℕ) (test : ℕ → Bool) (old now : List Cut) → now ≡ map (with_bit at test) old → at < row_bits old → at < row_bits now
now_place at test old now is place = omega (arith, ap row_bits is, bits_as_long at test old, place)

pub now_begins : (top at i : ℕ) (test : ℕ → Bool) (spans own : List Interval) (d : Interval) (l : PiecesAndRoom) (now : List Cut) → now ≡ map (with_bit at test) l.pieces → spans ≡ own → AreSpansFrom top 0 own → CutsStart top own l.pieces → i < length spans
    → StartsAt (get_or spans i d).first now
now_begins top at i test spans own d l now is same canonical cuts lt =
    let all = ends_from_cuts top 0 l.pieces own canonical (λ x _ le ne. cuts x le ne) (λ _. starts_zero most_start l.pieces l.stands.rising) in
    let P : List Cut → Type 0 = λ line. StartsAt (get_or spans i d).first line in
    let Q : Interval → Type 0 = λ s. StartsAt s.first l.pieces in
    subst P (sym is) (bits_start at _ test l.pieces (subst Q (ap (λ (ss : List Interval). get_or ss i d) (sym same)) (all i d (omega (arith, ap length same))).0))

-- ---- a 1 written within each interval

pub few_first : (at : ℕ) (line : List Cut) → ((j : ℕ) → j < length line → get_or (row_of line j) at false ≡ false) → line ≡ map (with_bit at (λ _. false)) line
few_first at line zeros =
    same_lists line (map (with_bit at (λ _. false)) line) (sym (length-map line (with_bit at (λ _. false)))) (λ j d lt.
    (let p : Cut = get_or line j none in
    let row : set p.1 at false ≡ p.1 = ap (λ (b : Bool). set p.1 at b) (sym (zeros j lt)) ∙ set-get_or p.1 at false in
    sym (get_or-map (with_bit at (λ _. false)) line j d d lt ∙ ap (λ (q : Cut). with_bit at (λ _. false) q) (default_at line j d lt) ∙ (λ i. (p.0, row i)) ∙ sym (default_at line j d lt))))
  where
    default_at : (cs : List Cut) (j : ℕ) (d : Cut) → j < length cs → get_or cs j d ≡ get_or cs j none
    default_at [] j d lt = absurd (omega arith)
    default_at (c ∷ cs) zero d lt = refl
    default_at (c ∷ cs) (suc j) d lt = default_at cs j d (omega arith)

pub few_more : (at i : ℕ) (spans : List Interval) (d : Interval) (from to : ℕ) (old now new : List Cut) → i < length spans → now ≡ map (with_bit at (has (take i spans))) old
    → IsRunIn (get_or spans i d) from to now → IsRunWritten at true from to now new → new ≡ map (with_bit at (has (take (i + 1) spans))) old
few_more at i spans d from to old now new lt is run h =
    let s : Interval = get_or spans i d in
    let f : ℕ → Bool = has (take i spans) in
    let g : ℕ → Bool = has (take (i + 1) spans) in
    let start : (j : ℕ) → j < length old → slice_index (starts now) j ≡ (get_or old j none).0 = λ j in'. start_was at f old now j is in' in
    let long : length now ≡ length old = ap (λ (l : List Cut). length l) is ∙ length-map old (with_bit at f) in
    bits_written at true from to f g old now new is h
    (λ j in' ge below. (let x : ℕ = (get_or old j none).0 in
    has_more spans i x d lt ∙ or_right (f x) (in_span x s) (in_it s x (omega (arith, start j in', run.low j ge (omega arith))) (omega (arith, start j in', run.high j below)))))
    (λ j in' less. (let x : ℕ = (get_or old j none).0 in has_more spans i x d lt ∙ or_false (f x) (in_span x s) (out_below s x (omega (arith, start j in', run.below j less)))))
    (λ j in' past. (let x : ℕ = (get_or old j none).0 in has_more spans i x d lt ∙ or_false (f x) (in_span x s) (out_above s x (omega (arith, start j in', run.above j past (omega arith))))))

-- ---- a 1 written everywhere, and a 0 between the intervals

-- a number is in one of the first intervals, or above them all
abbrev pub is_open : List Interval → ℕ → Bool
is_open spans x = has spans x || is_past spans x

past_later : (spans : List Interval) (y x : ℕ) → y ≤ x → is_past spans y ≡ true → is_past spans x ≡ true
past_later [] y x le e = refl
past_later (s ∷ ss) y x le e =
    both (leb (s.last + 1) x) (is_past ss x) (le-leb (s.last + 1) x (omega (arith, le, leb-true (s.last + 1) y (and_first_true (leb (s.last + 1) y) (is_past ss y) e))))
    ∙ past_later ss y x le (and_second_true (leb (s.last + 1) y) (is_past ss y) e)

-- above the k-th interval the first k are passed, and up to its end they aren't
past_above : (top k x : ℕ) (spans : List Interval) (d : Interval) → AreSpansFrom top 0 spans → 0 < k → k ≤ length spans → (get_or spans (k - 1) d).last < x → is_past (take k spans) x ≡ true
past_above top k x spans d h some le above =
    let last : ℕ = k - 1 in
    let e : k ≡ last + 1 = omega arith in
    let s : Interval = get_or spans last d in
    ap (λ n. is_past (take n spans) x) e ∙ past_more spans last x d (omega arith)
    ∙ both (is_past (take last spans) x) (leb (s.last + 1) x)
    (past_later (take last spans) s.first x (omega (arith, above, interval_some top 0 spans last d h (omega arith))) (past_first top 0 spans last d h (omega arith)))
    ∙ le-leb (s.last + 1) x (omega (arith, above))

past_within : (k x : ℕ) (spans : List Interval) (d : Interval) → 0 < k → k ≤ length spans → x ≤ (get_or spans (k - 1) d).last → is_past (take k spans) x ≡ false
past_within k x spans d some le within =
    let last : ℕ = k - 1 in
    let e : k ≡ last + 1 = omega arith in
    ap (λ n. is_past (take n spans) x) e ∙ past_more spans last x d (omega arith)
    ∙ and_right (is_past (take last spans) x) (leb ((get_or spans last d).last + 1) x) (lt-leb ((get_or spans last d).last + 1) x (omega (arith, within)))

-- nothing is written
same_bits : (at : ℕ) (f g : ℕ → Bool) (old now : List Cut) → now ≡ map (with_bit at f) old → ((j : ℕ) → j < length old → g (get_or old j none).0 ≡ f (get_or old j none).0) → now ≡ map (with_bit at g) old
same_bits at f g old now is same =
    bits_written at false 0 0 f g old now now is
    (record { as_long = refl; written = λ j d ge lt. absurd (omega (arith, lt)); before = λ j d lt. refl; after = λ j d ge. refl })
    (λ j in' ge lt. absurd (omega (arith, lt))) (λ j in' lt. same j in') (λ j in' ge. same j in')

-- where the first interval begins with 0, all numbers are in it or above it
open_all : (s : Interval) (x : ℕ) → s.first ≡ 0 → is_open (s ∷ []) x ≡ true
open_all s x z =
    elim (cases_lt s.last x) [
      | inl above ↦ or_right (has (s ∷ []) x) (is_past (s ∷ []) x) (both (leb (s.last + 1) x) true (le-leb (s.last + 1) x (omega (arith, above))))
      | inr within ↦ ap (λ (b : Bool). (b || false) || is_past (s ∷ []) x) (in_it s x (omega (arith, z)) within)
    ]

-- a set that has 0 begins with it
pub begins_with_0 : (top : ℕ) (spans : List Interval) (d : Interval) → AreSpansFrom top 0 spans → has spans 0 ≡ true → (0 < length spans) × ((get_or spans 0 d).first ≡ 0)
begins_with_0 top [] d h e = absurd (false≢true e)
begins_with_0 top (s ∷ ss) d h e = (
  omega arith,
  elim (cases_lt 0 s.first) [
    | inl later ↦ absurd (false≢true (sym (ap (λ (b : Bool). b || has ss 0) (out_below s 0 later) ∙ none_below top (s.last + 2) 0 ss h.3 (omega arith)) ∙ e))
    | inr zero' ↦ omega (arith, zero')
  ],
)

pub gaps_first : (top at : ℕ) (spans own : List Interval) (old now : List Cut) → spans ≡ own → AreSpansFrom top 0 own → has own 0 ≡ true → now ≡ map (with_bit at (λ _. true)) old → now ≡ map (with_bit at (is_open (take 1 spans))) old
gaps_first top at [] own old now same h e is = let P : List Interval → Type 0 = λ ss. has ss 0 ≡ true in absurd (false≢true (subst P (sym same) e))
gaps_first top at (s ∷ ss) own old now same h e is =
    let P : List Interval → Type 0 = λ all. (AreSpansFrom top 0 all) × (has all 0 ≡ true) in
    let own' = subst P (sym same) (h, e) in
    same_bits at (λ _. true) (is_open (s ∷ [])) old now is (λ j in'. open_all s (get_or old j none).0 (begins_with_0 top (s ∷ ss) s own'.0 own'.1).1)

-- the numbers between two neighbours
pub record IsGap (spans : List Interval) (d : Interval) (k : ℕ) (gap : Interval) : Type 0 where
  pub later : 0 < k
  pub within : k < length spans
  pub first : gap.first ≡ (get_or spans (k - 1) d).last + 1
  pub last : gap.last + 1 ≡ (get_or spans k d).first

-- there is one between any two
gap_next : (top low j : ℕ) (spans : List Interval) (d : Interval) → AreSpansFrom top low spans → suc j < length spans → (get_or spans j d).last + 2 ≤ (get_or spans (suc j) d).first
gap_next top low j [] d h lt = absurd (omega arith)
gap_next top low zero (s ∷ []) d h lt = absurd (omega arith)
gap_next top low zero (s ∷ t ∷ ss) d h lt = h.3.0
gap_next top low (suc j) (s ∷ ss) d h lt = gap_next top (s.last + 2) j ss d h.3 (omega arith)

pub gap_some : (top k : ℕ) (spans : List Interval) (d : Interval) → AreSpansFrom top 0 spans → 0 < k → k < length spans → (get_or spans (k - 1) d).last + 2 ≤ (get_or spans k d).first
gap_some top k spans d h some lt =
    let e : suc (k - 1) ≡ k = omega (arith, some) in
    let P : ℕ → Type 0 = λ n. (get_or spans (k - 1) d).last + 2 ≤ (get_or spans n d).first in
    subst P e (gap_next top 0 (k - 1) spans d h (omega (arith, some, lt)))

pub gap_begins : (top at k : ℕ) (test : ℕ → Bool) (spans own : List Interval) (d gap : Interval) (l : PiecesAndRoom) (now : List Cut) → now ≡ map (with_bit at test) l.pieces → spans ≡ own → AreSpansFrom top 0 own → CutsStart top own l.pieces → IsGap spans d k gap
    → StartsAt gap.first now
gap_begins top at k test spans own d gap l now is same canonical cuts g =
    let all = ends_from_cuts top 0 l.pieces own canonical (λ x _ le ne. cuts x le ne) (λ _. starts_zero most_start l.pieces l.stands.rising) in
    let lt : k - 1 < length own = omega (arith, g.later, g.within, ap (λ (ss : List Interval). length ss) same) in
    let C : List Interval → Type 0 = AreSpansFrom top 0 in
    let canonical' : AreSpansFrom top 0 spans = subst C (sym same) canonical in
    let low : (get_or spans (k - 1) d).last < top = omega (arith, gap_some top k spans d canonical' g.later g.within, (spans_within top 0 spans k d canonical' g.within).0) in
    let P : List Cut → Type 0 = λ line. StartsAt gap.first line in
    let Q : List Interval → Type 0 = λ ss. (get_or ss (k - 1) d).last < top → StartsAt ((get_or ss (k - 1) d).last + 1) l.pieces in
    let R : ℕ → Type 0 = λ x. StartsAt x l.pieces in
    subst P (sym is) (bits_start at gap.first test l.pieces (subst R (sym g.first) (subst Q (sym same) (all (k - 1) d lt).1 low)))

pub gap_more : (top at k : ℕ) (spans : List Interval) (d gap : Interval) (from to : ℕ) (old now new : List Cut) → AreSpansFrom top 0 spans → IsGap spans d k gap → now ≡ map (with_bit at (is_open (take k spans))) old
    → IsRunIn gap from to now → IsRunWritten at false from to now new → new ≡ map (with_bit at (is_open (take (k + 1) spans))) old
gap_more top at k spans d gap from to old now new canonical g is run w =
    let s : Interval = get_or spans k d in
    let before : ℕ → Bool = has (take k spans) in
    let past : ℕ → Bool = is_past (take k spans) in
    let f : ℕ → Bool = is_open (take k spans) in
    let open_next : ℕ → Bool = is_open (take (k + 1) spans) in
    let order = gap_some top k spans d canonical g.later g.within in
    let long' = interval_some top 0 spans k d canonical g.within in
    let start : (j : ℕ) → j < length old → slice_index (starts now) j ≡ (get_or old j none).0 = λ j in'. start_was at f old now j is in' in
    let long : length now ≡ length old = ap (λ (l : List Cut). length l) is ∙ length-map old (with_bit at f) in
    let parts : (x : ℕ) (a b : Bool) → in_span x s ≡ a → leb (s.last + 1) x ≡ b → open_next x ≡ ((before x || a) || (past x && b)) =
    λ x a b e e'. (let one = has_more spans k x d g.within ∙ ap (λ (c : Bool). before x || c) e in let two = past_more spans k x d g.within ∙ ap (λ (c : Bool). past x && c) e' in λ i. one i || two i) in
    bits_written at false from to f open_next old now new is w
    (λ j in' ge below. (let x : ℕ = (get_or old j none).0 in
    let low : gap.first ≤ x = omega (arith, start j in', run.low j ge (omega arith)) in
    let high : x ≤ gap.last = omega (arith, start j in', run.high j below) in
    let is_past' : past x ≡ true = past_above top k x spans d canonical g.later (omega (arith, g.within)) (omega (arith, g.first, low)) in
    parts x false false (out_below s x (omega (arith, g.last, high))) (lt-leb (s.last + 1) x (omega (arith, g.last, high, long')))
    ∙ or_false (before x || false) (past x && false) (and_right (past x) false refl) ∙ or_false (before x) false refl ∙ past_none (take k spans) x is_past'))
    (λ j in' less. (let x : ℕ = (get_or old j none).0 in
    let low : x < gap.first = omega (arith, start j in', run.below j less) in
    let not_past : past x ≡ false = past_within k x spans d g.later (omega (arith, g.within)) (omega (arith, g.first, low)) in
    parts x false false (out_below s x (omega (arith, g.first, low, order))) (lt-leb (s.last + 1) x (omega (arith, g.first, low, order, long')))
    ∙ or_false (before x || false) (past x && false) (and_right (past x) false refl) ∙ or_false (before x) false refl
    ∙ sym (or_false (before x) (past x) not_past)))
    (λ j in' ge. (let x : ℕ = (get_or old j none).0 in
    let above : gap.last < x = omega (arith, start j in', run.above j ge (omega arith)) in
    let is_past' : past x ≡ true = past_above top k x spans d canonical g.later (omega (arith, g.within)) (omega (arith, above, g.first, g.last, order)) in
    let was : f x ≡ true = or_right (before x) (past x) is_past' in
    elim (cases_lt s.last x) [
      | inr within ↦ (
          parts x true false (in_it s x (omega (arith, g.last, above)) within) (lt-leb (s.last + 1) x (omega (arith, within)))
          ∙ ap (λ (c : Bool). c || (past x && false)) (or_right (before x) true refl) ∙ sym was)
      | inl beyond ↦ (
          parts x false true (out_above s x beyond) (le-leb (s.last + 1) x (omega (arith, beyond)))
          ∙ or_right (before x || false) (past x && true) (both (past x) true is_past') ∙ sym was)
    ]))

if_not : (b : Bool) → (b ≡ true → ⊥) → b ≡ false
if_not true f = absurd (f refl)
if_not false f = refl

start_within : (top : ℕ) (line : List Cut) (j : ℕ) → IsRising top line → j < length line → (get_or line j none).0 ≤ top
start_within top [] j r lt = absurd r
start_within top (p ∷ ps) zero r lt = omega (arith, r.0)
start_within top (p ∷ ps) (suc j) r lt = within_at top 0 ps j r.1 (omega arith)

-- where the last interval ends with the line, no piece is above it
pub gaps_last : (top at k : ℕ) (spans own : List Interval) (old now : List Cut) → length spans ≤ k → spans ≡ own → has own top ≡ true → IsRising top old → now ≡ map (with_bit at (is_open (take k spans))) old → now ≡ map (with_bit at (has own)) old
gaps_last top at k spans own old now ge same e rising is =
    let all : take k spans ≡ own = take_all k spans ge ∙ same in
    same_bits at (is_open (take k spans)) (has own) old now is (λ j in'.
    (let x : ℕ = (get_or old j none).0 in
    let not_past : is_past own x ≡ false = if_not (is_past own x) (λ yes. false≢true (sym (past_none own top (past_later own x top (start_within top old j rising in') yes)) ∙ e)) in
    sym (ap (λ (ss : List Interval). is_open ss x) all ∙ or_false (has own x) (is_past own x) not_past)))

-- ---- a place opened, and answers written into it

abbrev pub IsOpened : ℕ → List Cut → List Cut → Type 0
IsOpened at old now = now ≡ map (with_test at (λ _. false)) old

tests_start : (at x : ℕ) (test : ℕ → Bool) (line : List Cut) → StartsAt x line → StartsAt x (map (with_test at test) line)
tests_start at x test [] s = s
tests_start at x test (p ∷ ps) s = elim s [ inl e ↦ inl e | inr t ↦ inr (tests_start at x test ps t) ]

pub opened_cuts : (top at : ℕ) (spans : List Interval) (old now : List Cut) → IsOpened at old now → CutsStart top spans old → CutsStart top spans now
opened_cuts top at spans old now is cuts x le ne = let P : List Cut → Type 0 = λ line. StartsAt (suc x) line in subst P (sym is) (tests_start at (suc x) (λ _. false) old (cuts x le ne))

pub opened_rising : (top at : ℕ) (old now : List Cut) → IsOpened at old now → IsRising top old → IsRising top now
opened_rising top at old now is rising =
    let P : List Cut → Type 0 = λ line. IsRising top line in
    subst P (sym is) (go old rising)
  where
    from : (a : ℕ) (line : List Cut) → IsRisingFrom top a line → IsRisingFrom top a (map (with_test at (λ _. false)) line)
    from a [] r = r
    from a (p ∷ ps) r = (r.0, r.1, from p.0 ps r.2)

    go : (line : List Cut) → IsRising top line → IsRising top (map (with_test at (λ _. false)) line)
    go [] r = r
    go (p ∷ ps) r = (r.0, from 0 ps r.1)

opened_row : (at j : ℕ) (old now : List Cut) → IsOpened at old now → j < length now → (j < length old) × (row_of now j ≡ insert (row_of old j) at false)
opened_row at j old now is lt =
    let in' : j < length old = omega (arith, ap (λ (l : List Cut). length l) is, length-map old (with_test at (λ _. false))) in
    (in', ap (λ (l : List Cut). row_of l j) is ∙ ap (λ (p : Cut). p.1) (get_or-map (with_test at (λ _. false)) old j none none in'))

pub opened_place : (at : ℕ) (l : PiecesAndRoom) (now : List Cut) → IsOpened at l.pieces now → at ≤ row_bits l.pieces → at < row_bits now
opened_place at l now is le =
    let P : List Cut → Type 0 = λ line. at < row_bits line in
    subst P (sym is) (go l.pieces l.stands.rising le)
  where
    go : (line : List Cut) → IsRising most_start line → at ≤ row_bits line → at < row_bits (map (with_test at (λ _. false)) line)
    go [] r le' = absurd r
    go (p ∷ ps) r le' = omega (arith, length-insert p.1 at false le')

pub opened_none : (at : ℕ) (l : PiecesAndRoom) (now : List Cut) → IsOpened at l.pieces now → at ≤ row_bits l.pieces → (j : ℕ) → j < length now → get_or (row_of now j) at false ≡ false
opened_none at l now is le j lt =
    let row = opened_row at j l.pieces now is lt in
    ap (λ (bs : List Bool). get_or bs at false) row.1 ∙ get_or-insert_at (row_of l.pieces j) at false false (omega (arith, row_long l j row.0))

written_again : (at : ℕ) (test : ℕ → Bool) (line : List Cut) → ((j : ℕ) → j < length line → at ≤ length (row_of line j)) → map (with_bit at test) (map (with_test at (λ _. false)) line) ≡ map (with_test at test) line
written_again at test [] place = refl
written_again at test (p ∷ ps) place =
    let row : set (insert p.1 at false) at (test p.0) ≡ insert p.1 at (test p.0) = set-insert p.1 at false (test p.0) (place 0 (omega arith)) in
    let rest = written_again at test ps (λ j lt. place (suc j) (omega arith)) in
    λ i. (p.0, row i) ∷ rest i

pub opened_written : (at : ℕ) (spans : List Interval) (l : PiecesAndRoom) (now new : List Cut) → IsOpened at l.pieces now → at ≤ row_bits l.pieces → new ≡ map (with_written at spans) now → new ≡ map (with_answer at spans) l.pieces
opened_written at spans l now new is le made =
    made ∙ ap (λ (line : List Cut). map (with_written at spans) line) is ∙ written_again at (has spans) l.pieces (λ j lt. omega (arith, row_long l j lt))
