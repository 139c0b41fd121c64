use Rattle.std.proofs.Common.{get_or, ◌++◌, ◌||◌, ◌∙◌, ap, sym, refl, arith}
use Rattle.fields.specs.declared.numbers.spans.Interval.{Interval}
use Rattle.fields.specs.numbers.Spans.{in_span}
use Rattle.notation.specs.SetText.{span_parts}
use Rattle.notation.proofs.PartLaws.{lent-part}
use Rattle.notation.proofs.SetTextLaws.{has-more, parts-more}
use Rattle.notation.proofs.sets.parts_of.Goals as goal

pub add_parts-requires-clause-ordered : goal.add_parts-requires-clause-ordered
add_parts-requires-clause-ordered c =
    (lent-part c.args.field c.args.set.now.top c.args.set.now.intervals c.intervals-spans.result.now c.loop-span.span-index _ c.requires c.intervals-spans.ensures.canonical c.intervals-spans.ensures.value (omega arith)).0

pub add_parts-requires-clause-within : goal.add_parts-requires-clause-within
add_parts-requires-clause-within c =
    (lent-part c.args.field c.args.set.now.top c.args.set.now.intervals c.intervals-spans.result.now c.loop-span.span-index _ c.requires c.intervals-spans.ensures.canonical c.intervals-spans.ensures.value (omega arith)).1

pub loop-span-preserved : goal.loop-span-preserved
loop-span-preserved c =
    let f = c.args.field in
    let spans = c.intervals-spans.result.now in
    let i = c.loop-span.span-index in
    let s : Interval = get_or spans i (record { first = 0; last = 0 }) in
    record {
      items = c.in_ok-add_parts.ensures.items ∙ ap (λ l. l ++ span_parts f s) c.loop-span.invariant.items ∙ sym (parts-more (span_parts f) spans i s (record { first = 0; last = 0 }) (omega arith) refl);
      members = λ x low. c.in_ok-add_parts.ensures.members x low ∙ ap (λ b. b || in_span x s) (c.loop-span.invariant.members x low) ∙ sym (has-more spans i s (record { first = 0; last = 0 }) (omega arith) refl x);
      parts = c.in_ok-add_parts.ensures.parts c.loop-span.invariant.parts;
    }
