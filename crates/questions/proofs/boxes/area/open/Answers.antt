use Rattle.std.proofs.Common.{◌<◌, ◌∙◌, arith, length-set}
use Rattle.fields.specs.declared.numbers.field.TheConstants.{FIELDS}
use Rattle.questions.proofs.laws.AreaLaws.{begins_next, begun_here}
use Rattle.questions.proofs.boxes.area.open.Goals as goal

pub loop-place-preserved : goal.loop-place-preserved
loop-place-preserved c =
    let lt : c.loop-place.place < FIELDS = omega arith in
    record {
      long = length-set c.loop-place.sets c.loop-place.place c.in_ok-sets.field-0 ∙ c.loop-place.invariant.long;
      begun = begins_next c.args.hook c.loop-place.sets c.loop-place.place c.in_ok-sets.field-0 c.loop-place.invariant.long lt c.loop-place.invariant.begun (λ f. begun_here c.args.hook c.loop-place.place f c.in_ok-sets.field-0 lt c.in_ok-sets.ensures);
    }
