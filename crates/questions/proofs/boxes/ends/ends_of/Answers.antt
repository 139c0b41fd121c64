use Rattle.std.proofs.Common.{◌≡◌, true, List, ◌∙◌, ap, arith}
use Rattle.std.proofs.lemmas.List.Folds.{Any-from_list_any}
use Rattle.fields.specs.declared.numbers.spans.Interval.{Interval}
use Rattle.fields.specs.numbers.Spans.{has, in_span}
use Rattle.questions.proofs.boxes.ends.ends_of.Goals as goal

pub returns : goal.returns
returns c = λ x small own.
    let there : has c.intervals-span-items.result.now x ≡ true = ap (λ (ss : List Interval). has ss x) c.intervals-span-items.ensures.value ∙ own in
    let a = Any-from_list_any (in_span x) c.intervals-span-items.result.now there in
    c.loop-span.invariant a.0 a.1 (omega (arith, a.2, c.loop-span-test.false)) x small (ap (in_span x) a.3 ∙ a.4)
