use Rattle.std.proofs.Common.{ℕ, List, sym, arith}
use Rattle.fields.specs.numbers.Spans.{SpanSet}
use Rattle.questions.specs.boxes.Boxes.{Has}
use Rattle.questions.proofs.laws.TrailLaws.{items_next}
use Rattle.questions.proofs.asked.exact.has_some.Goals as goal

pub loop-part-preserved : goal.loop-part-preserved
loop-part-preserved c =
    items_next (λ (part : List SpanSet). (numbers : List ℕ) → Has part numbers → ⊥) c.args.boxes.now c.loop-part.part-index c.part-item.result (omega arith) c.part-item.is c.loop-part.invariant (c.is_empty.ensures.none c.if-not-is_empty.false)

pub returns-then-not-is_empty-clause-some : goal.returns-then-not-is_empty-clause-some
returns-then-not-is_empty-clause-some c = λ _. (c.loop-part.part-index, c.part-item.result, omega arith, sym c.part-item.is, c.is_empty.ensures.some c.if-not-is_empty.true)

pub returns-clause-none : goal.returns-clause-none
returns-clause-none c = λ _ k d lt. c.loop-part.invariant k d (omega (arith, lt))
