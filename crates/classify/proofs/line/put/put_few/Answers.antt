use Rattle.fields.specs.declared.numbers.spans.Interval.{Interval}
use Rattle.std.proofs.Common.{arith, refl, ◌∙◌, ◌≡◌, ap, subst, sym, take, map, List}
use Rattle.std.proofs.lemmas.List.{take_all}
use Rattle.fields.specs.numbers.Spans.{has, AreSpansFrom}
use Rattle.classify.specs.steps.Edits.{with_bit}
use Rattle.classify.proofs.laws.line.PutLaws.{few_first, few_more, interval_some, now_place, now_begins}
use Rattle.classify.proofs.line.put.put_few.Goals as goal

abbrev no_span : Interval
no_span = record { first = 0; last = 0 }

pub loop-interval-init : goal.loop-interval-init
loop-interval-init c = record { answers = few_first c.args.at c.args.line.now.pieces c.requires.none; room = refl }

pub run_in-from-requires-clause-begins : goal.run_in-from-requires-clause-begins
run_in-from-requires-clause-begins c =
    now_begins c.args.spans.now.top c.args.at c.loop-interval.interval-index _ _ _ no_span c.args.line.now _ c.loop-interval.invariant.answers c.intervals-interval-items.ensures.value c.intervals-interval-items.ensures.canonical c.requires.cuts (omega arith)

pub run_in-from-requires-clause-some : goal.run_in-from-requires-clause-some
run_in-from-requires-clause-some c =
    let P : List Interval → Type 0 = AreSpansFrom c.args.spans.now.top 0 in
    interval_some c.args.spans.now.top 0 c.intervals-interval-items.result.now c.loop-interval.interval-index no_span (subst P (sym c.intervals-interval-items.ensures.value) c.intervals-interval-items.ensures.canonical) (omega arith)

pub set_run-requires-clause-place : goal.set_run-requires-clause-place
set_run-requires-clause-place c = now_place c.args.at _ _ _ c.loop-interval.invariant.answers c.requires.place

pub loop-interval-preserved : goal.loop-interval-preserved
loop-interval-preserved c = record {
  answers = few_more c.args.at c.loop-interval.interval-index c.intervals-interval-items.result.now no_span _ _ _ _ _ (omega arith) c.loop-interval.invariant.answers c.run_in-from.ensures c.set_run.ensures.written;
  room = c.set_run.ensures.room ∙ c.loop-interval.invariant.room;
}

pub returns-clause-answers : goal.returns-clause-answers
returns-clause-answers c =
    let spans : List Interval = c.intervals-interval-items.result.now in
    let whole : take c.loop-interval.interval-index spans ≡ c.args.spans.now.intervals = take_all c.loop-interval.interval-index spans (omega arith) ∙ c.intervals-interval-items.ensures.value in
    c.loop-interval.invariant.answers ∙ ap (λ (ss : List Interval). map (with_bit c.args.at (has ss)) c.args.line.now.pieces) whole
