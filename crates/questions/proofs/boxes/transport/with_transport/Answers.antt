use Rattle.std.proofs.Common.{◌≡◌, ◌<◌, arith, get_or}
use Rattle.std.proofs.lemmas.List.{get_or_default}
use Rattle.fields.specs.declared.numbers.field.TheConstants.{FIELDS}
use Rattle.fields.specs.declared.numbers.field.Field.{Field}
use Rattle.fields.specs.declared.numbers.field.Field.TheVariants as field
use Rattle.fields.specs.numbers.Field.{all_fields}
use Rattle.questions.proofs.laws.TransportLaws.{with_begins, with_end, with_next}
use Rattle.questions.proofs.boxes.transport.with_transport.Goals as goal

pub loop-place-init : goal.loop-place-init
loop-place-init c = with_begins c.args.transport c.args.area

pub loop-place-preserved : goal.loop-place-preserved
loop-place-preserved c =
    let i = c.loop-place.place in
    let lt : i < FIELDS = omega arith in
    let f : Field = get_or all_fields i field.Source in
    let at : (d : Field) → get_or all_fields i d ≡ f = λ d. get_or_default all_fields i d field.Source lt in
    with_next c.args.transport c.args.area c.loop-place.area c.in_ok-area.area i f c.in_ok-wanted.wanted at c.in_ok-wanted.ensures c.in_ok-area.ensures c.loop-place.invariant

pub returns : goal.returns
returns c = with_end c.args.transport c.args.area c.loop-place.area c.loop-place.place (omega arith) c.loop-place.invariant
