use Rattle.std.proofs.Common.{◌<◌, ◌∙◌, arith, length-set}
use Rattle.fields.specs.declared.numbers.field.TheConstants.{FIELDS}
use Rattle.questions.proofs.laws.ChoiceLaws.{chosen, next_number}
use Rattle.questions.proofs.sampling.choice.numbers_of.Goals as goal

pub loop-place-preserved : goal.loop-place-preserved
loop-place-preserved c =
    let lt : c.loop-place.place < FIELDS = omega arith in
    record {
      long = length-set c.loop-place.numbers c.loop-place.place c.in-Some.number ∙ c.loop-place.invariant.long;
      chosen = next_number c.args.area.now c.args.kind c.loop-place.numbers c.loop-place.place c.in-Some.number c.loop-place.invariant.long lt c.loop-place.invariant.chosen c.in-Some.ensures;
    }

pub returns : goal.returns
returns c = chosen c.args.area.now c.args.kind c.loop-place.numbers c.loop-place.invariant.long (λ place f lt. c.loop-place.invariant.chosen place f (omega arith))
