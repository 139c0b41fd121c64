use Rattle.std.proofs.Common.{◌≡◌, ℕ, ◌≤◌, false, List, subst, sym, arith}
use Rattle.fields.specs.declared.numbers.spans.Interval.{Interval}
use Rattle.fields.specs.numbers.Spans.{AreSpansFrom, has}
use Rattle.questions.proofs.laws.PartLaws.{some_missing}
use Rattle.questions.proofs.boxes.lying.has_span.Goals as goal

pub returns-clause-some : goal.returns-clause-some
returns-clause-some c = λ _.
    let top = c.args.set.now.top in
    let span = c.args.span in
    let same = c.intervals-other-items.ensures.value in
    let Missing : List Interval → Type 0 = λ spans. (x : ℕ) × (span.first ≤ x) × (x ≤ span.last) × (has spans x ≡ false) in
    subst Missing same (some_missing top 0 c.intervals-other-items.result.now span.first span.last (subst (AreSpansFrom top 0) (sym same) c.intervals-other-items.ensures.canonical) c.requires
    (λ k d lt. c.loop-other.invariant k d (omega (arith, lt, c.loop-other-test.false))))
