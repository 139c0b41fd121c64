use Rattle.std.proofs.Common.{◌≡◌, ◌<◌, get_or, map, sym, ap, ◌∙◌, arith}
use Rattle.std.proofs.Math.Dec.{leb}
use Rattle.std.proofs.lemmas.List.{length-set, get_or-map}
use Rattle.fields.specs.numbers.Field.{top}
use Rattle.fields.specs.declared.numbers.field.Field.TheVariants.{Source}
use Rattle.fields.specs.declared.numbers.field.TheConstants.{FIELDS}
use Rattle.fields.specs.declared.numbers.field.TheConstants.Field.{ALL}
use Rattle.rules.proofs.laws.BoxLaws.{whole_next}
use Rattle.rules.proofs.boxing.boxed.open.Goals as goal

pub loop-place-preserved : goal.loop-place-preserved
loop-place-preserved c =
    let lt : c.loop-place.place < FIELDS = omega arith in
    let at : c.top.result ≡ get_or (map top ALL) c.loop-place.place 0 = c.top.ensures ∙ sym (get_or-map top ALL c.loop-place.place Source 0 lt) in
    record {
      long = length-set c.loop-place.spans c.loop-place.place c.in_ok-spans.field-0 ∙ c.loop-place.invariant.long;
      whole = whole_next c.loop-place.spans c.loop-place.place c.in_ok-spans.field-0 c.loop-place.invariant.long c.loop-place.invariant.whole lt (record {
        top = c.in_ok-spans.ensures.top ∙ at;
        members = λ x. c.in_ok-spans.ensures.members x ∙ ap (leb x) (sym c.in_ok-spans.ensures.top);
      });
    }
