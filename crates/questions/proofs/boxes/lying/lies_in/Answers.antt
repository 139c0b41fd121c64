use Rattle.std.proofs.Common.{◌≡◌, ℕ, ◌≤◌, sym, ap, ◌∙◌, subst, arith}
use Rattle.fields.specs.numbers.Field.{top}
use Rattle.fields.specs.numbers.Spans.{SpanSet}
use Rattle.rules.proofs.laws.BoxLaws.{top_on}
use Rattle.classify.proofs.laws.classifier.ClassifierLaws.{field_at}
use Rattle.questions.proofs.laws.AreaLaws.{at_place, from_places, set_at}
use Rattle.questions.proofs.boxes.lying.lies_in.Goals as goal

pub returns-clause-all : goal.returns-clause-all
returns-clause-all c = λ _ numbers own. record {
  each = from_places c.args.other.now numbers (λ k lt. c.loop-place.invariant k (omega (arith, lt, c.loop-place-test.false)) numbers (at_place c.args.own.now numbers k lt own.each));
}

pub returns-then-not-is_part-clause-some : goal.returns-then-not-is_part-clause-some
returns-then-not-is_part-clause-some c = λ _.
    let k = c.loop-place.place in
    let (f, at) = field_at k (omega (arith, c.loop-place-test.true)) in
    let (x, le, on, off) = c.is_part.ensures.some c.if-not-is_part.true in
    let same : c.index-own-place.result.top ≡ top f = ap (λ (s : SpanSet). s.top) c.index-own-place.is ∙ top_on c.args.own.now c.requires.own f k c.index-own-place.result (sym at) in
    (f, x, subst (λ (t : ℕ). x ≤ t) same le, sym (set_at c.args.own.now k f c.index-own-place.result x c.requires.own (sym at) c.index-own-place.is) ∙ on, sym (set_at c.args.other.now k f c.index-other-place.result x c.requires.other (sym at) c.index-other-place.is) ∙ off)
