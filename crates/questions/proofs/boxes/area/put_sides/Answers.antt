use Rattle.std.proofs.Common.{◌<◌, sym, ap, ◌∙◌, arith, length-set}
use Rattle.fields.specs.numbers.Spans.{SpanSet}
use Rattle.fields.specs.declared.numbers.field.TheConstants.{FIELDS}
use Rattle.questions.proofs.laws.AreaLaws.{same_tops, sides_next}
use Rattle.questions.proofs.boxes.area.put_sides.Goals as goal

pub side-requires : goal.side-requires
side-requires c =
    ap (λ (s : SpanSet). s.top) c.index-own-place.is ∙ same_tops c.args.own.now c.args.other.now c.loop-place.place c.index-own-place.result c.index-other-place.result c.requires.own c.requires.other (omega arith) ∙ sym (ap (λ (s : SpanSet). s.top) c.index-other-place.is)

pub loop-place-preserved : goal.loop-place-preserved
loop-place-preserved c =
    let lt : c.loop-place.place < FIELDS = omega arith in
    record {
      long = length-set c.loop-place.sets c.loop-place.place c.in_ok-sets.field-0 ∙ c.loop-place.invariant.long;
      sides = sides_next c.args.at c.args.own.now c.args.other.now c.loop-place.sets c.loop-place.place c.in_ok-sets.field-0 c.index-own-place.result c.index-other-place.result c.requires.own c.requires.other c.loop-place.invariant.long lt c.index-own-place.is c.index-other-place.is c.loop-place.invariant.sides c.in_ok-sets.ensures;
    }
