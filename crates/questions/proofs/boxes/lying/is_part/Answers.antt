use Rattle.std.proofs.Common.{◌≡◌, true, List, sym, subst, ◌∙◌, ap, arith}
use Rattle.std.proofs.lemmas.List.Folds.{Any-from_list_any}
use Rattle.fields.specs.declared.numbers.spans.Interval.{Interval}
use Rattle.fields.specs.numbers.Spans.{AreSpansFrom, has, in_span}
use Rattle.questions.proofs.laws.PartLaws.{has_interval, interval_of}
use Rattle.questions.proofs.boxes.lying.is_part.Goals as goal

pub returns-clause-all : goal.returns-clause-all
returns-clause-all c = λ _ x own.
    let there : has c.intervals-span-items.result.now x ≡ true = ap (λ (ss : List Interval). has ss x) c.intervals-span-items.ensures.value ∙ own in
    let a = Any-from_list_any (in_span x) c.intervals-span-items.result.now there in
    c.loop-span.invariant a.0 a.1 (omega (arith, a.2, c.loop-span-test.false)) x (ap (in_span x) a.3 ∙ a.4)

-- the interval that isn't in the other set
pub has_span-requires : goal.has_span-requires
has_span-requires c = (interval_of c.args.own.now.top 0 c.intervals-span-items.result.now c.loop-span.span-index _ (subst (AreSpansFrom c.args.own.now.top 0) (sym c.intervals-span-items.ensures.value) c.intervals-span-items.ensures.canonical) (omega arith)).0

pub returns-then-not-has_span-clause-some : goal.returns-then-not-has_span-clause-some
returns-then-not-has_span-clause-some c = λ _.
    let own = c.args.own.now in
    let items = c.intervals-span-items.result.now in
    let same = c.intervals-span-items.ensures.value in
    let (x, from, to, off) = c.has_span.ensures.some c.if-not-has_span.true in
    let d : Interval = record { first = 0; last = 0 } in
    let within = interval_of own.top 0 items c.loop-span.span-index d (subst (AreSpansFrom own.top 0) (sym same) c.intervals-span-items.ensures.canonical) (omega arith) in
    (x, omega (arith, to, within.1), sym (ap (λ (ss : List Interval). has ss x) same) ∙ has_interval items c.loop-span.span-index d x (omega arith) from to, off)
