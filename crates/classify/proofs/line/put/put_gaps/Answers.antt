use Rattle.fields.specs.declared.numbers.spans.Interval.{Interval}
use Rattle.std.proofs.Common.{◌≡◌, ◌+◌, ◌-◌, ◌<◌, ◌≤◌, ◌∙◌, arith, refl, subst, sym, length, List, ℕ, get_or}
use Rattle.fields.specs.numbers.Spans.{AreSpansFrom}
use Rattle.classify.proofs.laws.line.PutLaws.{IsGap, gaps_first, gap_some, gap_begins, gap_more, gaps_last, now_place}
use Rattle.classify.proofs.line.put.put_gaps.Goals as goal

abbrev no_span : Interval
no_span = record { first = 0; last = 0 }

pub loop-k-init : goal.loop-k-init
loop-k-init c = record {
  answers = gaps_first c.args.spans.now.top c.args.at c.intervals-intervals.result.now c.args.spans.now.intervals _ _ c.intervals-intervals.ensures.value c.intervals-intervals.ensures.canonical c.requires.first c.set_all.ensures.pieces;
  room = c.set_all.ensures.room;
}

-- between two neighbours there is a number
some : (top k : ℕ) (spans own : List Interval) → spans ≡ own → AreSpansFrom top 0 own → 1 ≤ k → k < length spans → (AreSpansFrom top 0 spans) × ((get_or spans (k - 1) no_span).last + 2 ≤ (get_or spans k no_span).first)
some top k spans own same canonical ge lt =
    let P : List Interval → Type 0 = AreSpansFrom top 0 in
    let canonical' = subst P (sym same) canonical in
    (canonical', gap_some top k spans no_span canonical' (omega (arith, ge)) lt)

-- the numbers between them
abbrev between : ℕ → List Interval → Interval
between k spans = record { first = (get_or spans (k - 1) no_span).last + 1; last = (get_or spans k no_span).first - 1 }

gap : (top k : ℕ) (spans own : List Interval) → spans ≡ own → AreSpansFrom top 0 own → 1 ≤ k → k < length spans → IsGap spans no_span k (between k spans)
gap top k spans own same canonical ge lt = record { later = omega (arith, ge); within = lt; first = refl; last = omega (arith, (some top k spans own same canonical ge lt).1) }

pub overflow_add-gap : goal.overflow_add-gap
overflow_add-gap c = omega (arith, (some c.args.spans.now.top c.loop-k.k c.intervals-intervals.result.now _ c.intervals-intervals.ensures.value c.intervals-intervals.ensures.canonical c.loop-k.auto.k c.loop-k-test.true).1, c.loop-k-test.element_fits)

pub overflow_sub-gap-in-loop-k : goal.overflow_sub-gap-in-loop-k
overflow_sub-gap-in-loop-k c = omega (arith, (some c.args.spans.now.top c.loop-k.k c.intervals-intervals.result.now _ c.intervals-intervals.ensures.value c.intervals-intervals.ensures.canonical c.loop-k.auto.k c.loop-k-test.true).1)

pub run_in-from-requires-clause-begins : goal.run_in-from-requires-clause-begins
run_in-from-requires-clause-begins c =
    gap_begins c.args.spans.now.top c.args.at c.loop-k.k _ c.intervals-intervals.result.now c.args.spans.now.intervals no_span _ c.args.line.now _ c.loop-k.invariant.answers c.intervals-intervals.ensures.value c.intervals-intervals.ensures.canonical c.requires.cuts
    (gap c.args.spans.now.top c.loop-k.k c.intervals-intervals.result.now _ c.intervals-intervals.ensures.value c.intervals-intervals.ensures.canonical c.loop-k.auto.k c.loop-k-test.true)

pub run_in-from-requires-clause-some : goal.run_in-from-requires-clause-some
run_in-from-requires-clause-some c = omega (arith, (some c.args.spans.now.top c.loop-k.k c.intervals-intervals.result.now _ c.intervals-intervals.ensures.value c.intervals-intervals.ensures.canonical c.loop-k.auto.k c.loop-k-test.true).1)

pub set_run-requires-clause-place : goal.set_run-requires-clause-place
set_run-requires-clause-place c = now_place c.args.at _ _ _ c.loop-k.invariant.answers c.requires.place

pub loop-k-preserved : goal.loop-k-preserved
loop-k-preserved c =
    let k : ℕ = c.loop-k.k in
    let spans : List Interval = c.intervals-intervals.result.now in
    record {
      answers = gap_more c.args.spans.now.top c.args.at c.loop-k.k c.intervals-intervals.result.now no_span (between k spans) c.run_in-from.result.from c.run_in-from.result.to _ _ _ (some c.args.spans.now.top c.loop-k.k c.intervals-intervals.result.now _ c.intervals-intervals.ensures.value c.intervals-intervals.ensures.canonical c.loop-k.auto.k c.loop-k-test.true).0 (gap c.args.spans.now.top c.loop-k.k c.intervals-intervals.result.now _ c.intervals-intervals.ensures.value c.intervals-intervals.ensures.canonical c.loop-k.auto.k c.loop-k-test.true) c.loop-k.invariant.answers c.run_in-from.ensures c.set_run.ensures.written;
      room = c.set_run.ensures.room ∙ c.loop-k.invariant.room;
    }

pub returns-clause-answers : goal.returns-clause-answers
returns-clause-answers c =
    gaps_last c.args.spans.now.top c.args.at c.loop-k.k c.intervals-intervals.result.now c.args.spans.now.intervals _ _ (omega arith) c.intervals-intervals.ensures.value c.requires.last c.requires.rising c.loop-k.invariant.answers
