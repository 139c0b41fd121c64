use Rattle.std.proofs.lemmas.Result.{IfOk-weaker}
use Rattle.fields.specs.declared.numbers.field.TheConstants.{FIELDS}
use Rattle.rules.specs.Boxed.{IsBox}
use Rattle.questions.specs.boxes.Boxes.{IsBoth}
use Rattle.questions.specs.steps.Sides.{IsPart}
use Rattle.questions.proofs.laws.AreaLaws.{within_both}
use Rattle.questions.proofs.boxes.area.Area.within.Goals as goal

pub returns : goal.returns
returns c =
    let whole : IsBox c.sets.result.now = rw c.sets.ensures.value c.sets.ensures.whole in
    rw (← c.sets.ensures.value) (IfOk-weaker c.part.result (IsPart FIELDS c.sets.result.now c.args.other.now) (IsBoth c.sets.result.now c.args.other.now)
    (λ part h. within_both c.sets.result.now c.args.other.now part whole h) c.part.ensures)
