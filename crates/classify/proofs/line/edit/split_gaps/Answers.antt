use Rattle.fields.specs.declared.numbers.spans.Interval.{Interval}
use Rattle.std.proofs.Common.{◌≡◌, ◌+◌, ◌-◌, ◌<◌, ◌≤◌, ◌∙◌, ℕ, List, ap, arith, refl, subst, sym, length, get_or, true}
use Rattle.std.proofs.lemmas.Bool.{false≢true}
use Rattle.fields.specs.numbers.Spans.{has, AreSpansFrom}
use Rattle.classify.specs.steps.Pieces.{CutsStart, ChangesAt, IsRising, IsSplitOf, StartsAt}
use Rattle.classify.proofs.laws.line.ApartLaws.{both_change}
use Rattle.classify.proofs.laws.line.CutLaws.{GapSplit, ends_all, gaps_done, gaps_init, gaps_next}
use Rattle.classify.proofs.laws.line.LoopLaws.{split_twice, spans_within}
use Rattle.classify.proofs.laws.line.PutLaws.{begins_with_0, gap_some}
use Rattle.classify.proofs.laws.line.EditLaws.{Cut, split_same}
use Rattle.classify.proofs.line.edit.split_gaps.Invariants.{no_span}
use Rattle.classify.proofs.line.edit.split_gaps.Goals.{After-split_pair, After-top}
use Rattle.classify.proofs.line.edit.split_gaps.Goals as goal

-- two neighbours
record AreNext (top k : ℕ) (spans : List Interval) : Type 0 where
  canonical : AreSpansFrom top 0 spans
  apart : (get_or spans (k - 1) no_span).last + 2 ≤ (get_or spans k no_span).first
  within : (get_or spans k no_span).first ≤ top
  after : ChangesAt spans ((get_or spans (k - 1) no_span).last + 1)
  next : ChangesAt spans (get_or spans k no_span).first

are_next : (top k : ℕ) (spans own : List Interval) → spans ≡ own → AreSpansFrom top 0 own → 1 ≤ k → k < length spans → AreNext top k spans
are_next top k spans own same canonical ge lt =
    let P : List Interval → Type 0 = AreSpansFrom top 0 in
    let canonical' = subst P (sym same) canonical in
    record {
      canonical = canonical';
      apart = gap_some top k spans no_span canonical' (omega (arith, ge)) lt;
      within = (spans_within top 0 spans k no_span canonical' lt).0;
      after = (both_change top spans (k - 1) no_span canonical' (omega (arith, lt))).1;
      next = (both_change top spans k no_span canonical' lt).0;
    }

-- where the cuts were there before, both are there
there : (top k : ℕ) (spans own : List Interval) (old now : List Cut) → spans ≡ own → AreSpansFrom top 0 own → IsRising top old → CutsStart top own old → IsSplitOf top spans old now → 1 ≤ k → k < length spans
    → StartsAt ((get_or spans (k - 1) no_span).last + 1) now × StartsAt (get_or spans k no_span).first now
there top k spans own old now same canonical rising cuts split ge lt =
    let all = ends_all top spans own old now same canonical rising cuts split in
    let n = are_next top k spans own same canonical ge lt in
    ((all (k - 1) no_span (omega (arith, lt))).1 (omega (arith, n.apart, n.within)), (all k no_span lt).0)

pub loop-k-init : goal.loop-k-init
loop-k-init c = record {
  cuts = gaps_init c.args.spans.now.top c.intervals-intervals.result.now c.args.spans.now.intervals no_span c.args.line.now.pieces c.intervals-intervals.ensures.value c.intervals-intervals.ensures.canonical c.requires.first c.requires.rising;
  kept = λ cuts. refl;
  room = refl;
}

pub overflow_add-intervals : goal.overflow_add-intervals
overflow_add-intervals c =
    omega (arith, (are_next c.args.spans.now.top c.loop-k.k c.intervals-intervals.result.now c.args.spans.now.intervals c.intervals-intervals.ensures.value c.intervals-intervals.ensures.canonical c.loop-k.auto.k c.loop-k-test.true).apart, c.loop-k-test.element_fits)

-- both cuts are made
split_now : (c : After-split_pair) → IsSplitOf c.args.spans.now.top c.intervals-intervals.result.now c.loop-k.line.pieces c.split_pair.new.line.pieces
split_now c =
    let n = are_next c.args.spans.now.top c.loop-k.k c.intervals-intervals.result.now c.args.spans.now.intervals c.intervals-intervals.ensures.value c.intervals-intervals.ensures.canonical c.loop-k.auto.k c.loop-k-test.true in
    c.split_pair.ensures.split c.args.spans.now.top c.intervals-intervals.result.now (omega (arith, n.apart, n.within)) n.within n.after n.next c.loop-k.invariant.cuts.cuts.split.rising

kept_now : (c : After-split_pair) → CutsStart c.args.spans.now.top c.args.spans.now.intervals c.args.line.now.pieces → c.split_pair.new.line.pieces ≡ c.args.line.now.pieces
kept_now c cuts =
    let t = there c.args.spans.now.top c.loop-k.k c.intervals-intervals.result.now c.args.spans.now.intervals _ _ c.intervals-intervals.ensures.value c.intervals-intervals.ensures.canonical c.requires.rising cuts c.loop-k.invariant.cuts.cuts.split c.loop-k.auto.k c.loop-k-test.true in
    c.split_pair.ensures.kept t.0 t.1 ∙ c.loop-k.invariant.kept cuts

pub returns-in_err-split_pair-clause-split : goal.returns-in_err-split_pair-clause-split
returns-in_err-split_pair-clause-split c =
    let P : List Interval → Type 0 = λ ss. IsSplitOf c.args.spans.now.top ss c.args.line.now.pieces c.split_pair.new.line.pieces in
    subst P c.intervals-intervals.ensures.value (split_twice _ _ _ _ _ c.loop-k.invariant.cuts.cuts.split (split_now (goal.at.returns-in_err-split_pair-clause-split c).After-split_pair))

pub returns-in_err-split_pair-clause-there : goal.returns-in_err-split_pair-clause-there
returns-in_err-split_pair-clause-there c cuts =
    let t = there c.args.spans.now.top c.loop-k.k c.intervals-intervals.result.now c.args.spans.now.intervals _ _ c.intervals-intervals.ensures.value c.intervals-intervals.ensures.canonical c.requires.rising cuts c.loop-k.invariant.cuts.cuts.split c.loop-k.auto.k c.loop-k-test.true in
    absurd (false≢true (c.in_err-split_pair.ensures.there t.0 t.1))

pub returns-in_err-split_pair-clause-kept : goal.returns-in_err-split_pair-clause-kept
returns-in_err-split_pair-clause-kept c cuts = kept_now (goal.at.returns-in_err-split_pair-clause-kept c).After-split_pair cuts

pub loop-k-preserved : goal.loop-k-preserved
loop-k-preserved c =
    let at = (goal.at.loop-k-preserved c).After-split_pair in
    record {
      cuts = gaps_next c.args.spans.now.top c.intervals-intervals.result.now no_span _ _ _ c.loop-k.k c.loop-k.invariant.cuts c.loop-k.auto.k c.loop-k-test.true (split_now at) c.in_ok-split_pair.ensures.ok.0 c.in_ok-split_pair.ensures.ok.1;
      kept = kept_now at;
      room = c.split_pair.ensures.room ∙ c.loop-k.invariant.room;
    }

-- ---- after the last interval

-- all of them have been passed
all_passed : (top k : ℕ) (spans own : List Interval) (old now : List Cut) → spans ≡ own → AreSpansFrom top 0 own → has own 0 ≡ true → (1 ≤ length spans → k ≤ length spans) → length spans ≤ k → GapSplit top spans no_span old now k
    → (1 ≤ length spans) × GapSplit top spans no_span old now (length spans)
all_passed top k spans own old now same canonical e upto ge h =
    let some : 1 ≤ length spans = omega (arith, (begins_with_0 top own no_span canonical e).0, ap length same) in
    let P : ℕ → Type 0 = GapSplit top spans no_span old now in
    let all : k ≡ length spans = omega (arith, ge, upto some) in
    (some, subst P all h)

passed : (c : After-top) → (1 ≤ length c.intervals-intervals.result.now) × GapSplit c.args.spans.now.top c.intervals-intervals.result.now no_span c.args.line.now.pieces c.loop-k.line.pieces (length c.intervals-intervals.result.now)
passed c =
    all_passed c.args.spans.now.top c.loop-k.k c.intervals-intervals.result.now c.args.spans.now.intervals _ _ c.intervals-intervals.ensures.value c.intervals-intervals.ensures.canonical c.requires.first c.loop-k.auto.k-end (omega (arith, c.loop-k-test.false)) c.loop-k.invariant.cuts

pub returns-then-last-top-clause-ok : goal.returns-then-last-top-clause-ok
returns-then-last-top-clause-ok c =
    let h = passed (goal.at.returns-then-last-top-clause-ok c).After-top in
    gaps_done c.args.spans.now.top c.intervals-intervals.result.now c.args.spans.now.intervals no_span _ _ _ (length c.intervals-intervals.result.now) h.1 h.0 refl
    (split_same c.args.spans.now.top c.intervals-intervals.result.now c.loop-k.line.pieces h.1.cuts.split.rising) (λ lt. absurd (omega (arith, lt, c.if-last-top.true, c.top.ensures))) c.intervals-intervals.ensures.value

-- the cut after the last interval
record IsLast (top k : ℕ) (spans : List Interval) (old now : List Cut) : Type 0 where
  some : 1 ≤ length spans
  gaps : GapSplit top spans no_span old now (length spans)
  after : ChangesAt spans ((get_or spans (length spans - 1) no_span).last + 1)

is_last : (c : After-top) → IsLast c.args.spans.now.top c.loop-k.k c.intervals-intervals.result.now c.args.line.now.pieces c.loop-k.line.pieces
is_last c =
    let h = passed c in
    let P : List Interval → Type 0 = AreSpansFrom c.args.spans.now.top 0 in
    let canonical = subst P (sym c.intervals-intervals.ensures.value) c.intervals-intervals.ensures.canonical in
    record {
      some = h.0;
      gaps = h.1;
      after = (both_change c.args.spans.now.top c.intervals-intervals.result.now (length c.intervals-intervals.result.now - 1) no_span canonical (omega (arith, h.0))).1;
    }

last_there : (c : After-top) → (get_or c.intervals-intervals.result.now (length c.intervals-intervals.result.now - 1) no_span).last < c.args.spans.now.top → CutsStart c.args.spans.now.top c.args.spans.now.intervals c.args.line.now.pieces
    → StartsAt ((get_or c.intervals-intervals.result.now (length c.intervals-intervals.result.now - 1) no_span).last + 1) c.loop-k.line.pieces
last_there c lt cuts =
    let h = is_last c in
    (ends_all c.args.spans.now.top c.intervals-intervals.result.now c.args.spans.now.intervals _ _ c.intervals-intervals.ensures.value c.intervals-intervals.ensures.canonical c.requires.rising cuts h.gaps.cuts.split (length c.intervals-intervals.result.now - 1) no_span (omega (arith, h.some))).1 lt

pub returns-in_err-split_at-clause-split : goal.returns-in_err-split_at-clause-split
returns-in_err-split_at-clause-split c =
    let h = is_last (goal.at.returns-in_err-split_at-clause-split c).After-top in
    let P : List Interval → Type 0 = λ ss. IsSplitOf c.args.spans.now.top ss c.args.line.now.pieces c.split_at.new.line.pieces in
    subst P c.intervals-intervals.ensures.value (split_twice _ _ _ _ _ h.gaps.cuts.split (c.split_at.ensures.split c.args.spans.now.top c.intervals-intervals.result.now (omega (arith, c.if-last-top.false, c.top.ensures)) h.after h.gaps.cuts.split.rising))

pub returns-in_err-split_at-clause-there : goal.returns-in_err-split_at-clause-there
returns-in_err-split_at-clause-there c cuts =
    absurd (false≢true (c.in_err-split_at.ensures.there (last_there (goal.at.returns-in_err-split_at-clause-there c).After-top (omega (arith, c.if-last-top.false, c.top.ensures)) cuts)))

pub returns-in_err-split_at-clause-kept : goal.returns-in_err-split_at-clause-kept
returns-in_err-split_at-clause-kept c cuts =
    c.split_at.ensures.kept (last_there (goal.at.returns-in_err-split_at-clause-kept c).After-top (omega (arith, c.if-last-top.false, c.top.ensures)) cuts) ∙ c.loop-k.invariant.kept cuts

pub returns-clause-split : goal.returns-clause-split
returns-clause-split c =
    let h = is_last (goal.at.returns-clause-split c).After-top in
    let P : List Interval → Type 0 = λ ss. IsSplitOf c.args.spans.now.top ss c.args.line.now.pieces c.split_at.new.line.pieces in
    subst P c.intervals-intervals.ensures.value (split_twice _ _ _ _ _ h.gaps.cuts.split (c.split_at.ensures.split c.args.spans.now.top c.intervals-intervals.result.now (omega (arith, c.if-last-top.false, c.top.ensures)) h.after h.gaps.cuts.split.rising))

pub returns-clause-ok : goal.returns-clause-ok
returns-clause-ok c =
    let h = is_last (goal.at.returns-clause-ok c).After-top in
    gaps_done c.args.spans.now.top c.intervals-intervals.result.now c.args.spans.now.intervals no_span _ _ _ (length c.intervals-intervals.result.now) h.gaps h.some refl
    (c.split_at.ensures.split c.args.spans.now.top c.intervals-intervals.result.now (omega (arith, c.if-last-top.false, c.top.ensures)) h.after h.gaps.cuts.split.rising) (λ _. c.in_ok-split_at.ensures.ok) c.intervals-intervals.ensures.value

pub returns-clause-kept : goal.returns-clause-kept
returns-clause-kept c cuts =
    c.split_at.ensures.kept (last_there (goal.at.returns-clause-kept c).After-top (omega (arith, c.if-last-top.false, c.top.ensures)) cuts) ∙ c.loop-k.invariant.kept cuts
