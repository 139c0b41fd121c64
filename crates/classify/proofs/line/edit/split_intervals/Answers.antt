use Rattle.fields.specs.declared.numbers.spans.Interval.{Interval}
use Rattle.std.proofs.Common.{arith, sym, ◌∙◌, List, subst, ℕ, get_or}
use Rattle.std.proofs.lemmas.Bool.{false≢true}
use Rattle.classify.proofs.laws.line.ApartLaws.{both_change}
use Rattle.fields.specs.numbers.Spans.{AreSpansFrom}
use Rattle.classify.specs.steps.Pieces.{EndsStart, IsSplitOf}
use Rattle.classify.proofs.laws.line.LoopLaws.{ends_there, split_next, split_twice, spans_within, split_done_all}
use Rattle.classify.proofs.line.edit.split_intervals.Goals as goal

abbrev no_span : Interval
no_span = record { first = 0; last = 0 }

pub split_interval-requires-clause-begins : goal.split_interval-requires-clause-begins
split_interval-requires-clause-begins c =
    let P : List Interval → Type 0 = AreSpansFrom c.args.spans.now.top 0 in
    omega (arith, c.top-top.ensures, (spans_within c.args.spans.now.top 0 c.intervals-interval-items.result.now c.loop-interval.interval-index no_span (subst P (sym c.intervals-interval-items.ensures.value) c.intervals-interval-items.ensures.canonical) (omega arith)).0)

pub split_interval-requires-clause-ends : goal.split_interval-requires-clause-ends
split_interval-requires-clause-ends c =
    let P : List Interval → Type 0 = AreSpansFrom c.args.spans.now.top 0 in
    omega (arith, c.top-top.ensures, (spans_within c.args.spans.now.top 0 c.intervals-interval-items.result.now c.loop-interval.interval-index no_span (subst P (sym c.intervals-interval-items.ensures.value) c.intervals-interval-items.ensures.canonical) (omega arith)).1)

pub returns-in_err-split_interval-clause-split : goal.returns-in_err-split_interval-clause-split
returns-in_err-split_interval-clause-split c =
    let items : List Interval = c.intervals-interval-items.result.now in
    let C : List Interval → Type 0 = AreSpansFrom c.args.spans.now.top 0 in
    let ends = both_change c.args.spans.now.top items c.loop-interval.interval-index no_span (subst C (sym c.intervals-interval-items.ensures.value) c.intervals-interval-items.ensures.canonical) (omega arith) in
    let Q : ℕ → Type 0 = λ top. IsSplitOf top items c.loop-interval.line.pieces c.split_interval.new.line.pieces in
    let P : List Interval → Type 0 = λ ss. IsSplitOf c.args.spans.now.top ss c.args.line.now.pieces c.split_interval.new.line.pieces in
    subst P c.intervals-interval-items.ensures.value (split_twice _ _ _ _ _ c.loop-interval.invariant.cuts.split (subst Q c.top-top.ensures (c.split_interval.ensures.split items ends.0 ends.1)))

pub returns-clause-split : goal.returns-clause-split
returns-clause-split c =
    let P : List Interval → Type 0 = λ ss. IsSplitOf c.args.spans.now.top ss c.args.line.now.pieces c.loop-interval.line.pieces in
    subst P c.intervals-interval-items.ensures.value c.loop-interval.invariant.cuts.split

pub loop-interval-preserved : goal.loop-interval-preserved
loop-interval-preserved c =
    let items : List Interval = c.intervals-interval-items.result.now in
    let C : List Interval → Type 0 = AreSpansFrom c.args.spans.now.top 0 in
    let ends = both_change c.args.spans.now.top items c.loop-interval.interval-index no_span (subst C (sym c.intervals-interval-items.ensures.value) c.intervals-interval-items.ensures.canonical) (omega arith) in
    let Q : ℕ → Type 0 = λ top. IsSplitOf top items c.loop-interval.line.pieces c.split_interval.new.line.pieces in
    let R : ℕ → Type 0 = λ top. EndsStart top c.split_interval.new.line.pieces (get_or items c.loop-interval.interval-index no_span) in
    record {
      cuts = split_next _ _ _ _ _ _ no_span c.loop-interval.invariant.cuts (subst Q c.top-top.ensures (c.split_interval.ensures.split items ends.0 ends.1)) (omega arith) (subst R c.top-top.ensures c.in_ok-split_interval.ensures.ok);
      kept = λ cuts.
          (let now = ends_there c.args.spans.now.top c.args.spans.now.intervals items _ _ c.loop-interval.interval-index no_span c.intervals-interval-items.ensures.value c.intervals-interval-items.ensures.canonical c.requires cuts c.loop-interval.invariant.cuts (omega arith) in
          let T : ℕ → Type 0 = λ t. EndsStart t c.loop-interval.line.pieces (get_or items c.loop-interval.interval-index no_span) in
          c.split_interval.ensures.kept (subst T (sym c.top-top.ensures) now) ∙ c.loop-interval.invariant.kept cuts);
      room = c.split_interval.ensures.room ∙ c.loop-interval.invariant.room;
    }

pub returns-clause-ok : goal.returns-clause-ok
returns-clause-ok c = split_done_all _ _ _ _ _ _ c.loop-interval.invariant.cuts (omega arith) c.intervals-interval-items.ensures.value

pub returns-in_err-split_interval-clause-there : goal.returns-in_err-split_interval-clause-there
returns-in_err-split_interval-clause-there c cuts =
    let items : List Interval = c.intervals-interval-items.result.now in
    let now = ends_there c.args.spans.now.top c.args.spans.now.intervals items _ _ c.loop-interval.interval-index no_span c.intervals-interval-items.ensures.value c.intervals-interval-items.ensures.canonical c.requires cuts c.loop-interval.invariant.cuts (omega arith) in
    let T : ℕ → Type 0 = λ t. EndsStart t c.loop-interval.line.pieces (get_or items c.loop-interval.interval-index no_span) in
    absurd (false≢true (c.in_err-split_interval.ensures.there (subst T (sym c.top-top.ensures) now)))

pub returns-in_err-split_interval-clause-kept : goal.returns-in_err-split_interval-clause-kept
returns-in_err-split_interval-clause-kept c cuts =
    let items : List Interval = c.intervals-interval-items.result.now in
    let now = ends_there c.args.spans.now.top c.args.spans.now.intervals items _ _ c.loop-interval.interval-index no_span c.intervals-interval-items.ensures.value c.intervals-interval-items.ensures.canonical c.requires cuts c.loop-interval.invariant.cuts (omega arith) in
    let T : ℕ → Type 0 = λ t. EndsStart t c.loop-interval.line.pieces (get_or items c.loop-interval.interval-index no_span) in
    c.split_interval.ensures.kept (subst T (sym c.top-top.ensures) now) ∙ c.loop-interval.invariant.kept cuts

pub returns-in_err-split_interval-clause-room : goal.returns-in_err-split_interval-clause-room
returns-in_err-split_interval-clause-room c = c.split_interval.ensures.room ∙ c.loop-interval.invariant.room
