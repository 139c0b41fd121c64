use Rattle.std.proofs.Common.{arith}
use Rattle.fields.specs.numbers.Field.{number_on}
use Rattle.questions.proofs.laws.AreaLaws.{set_has}
use Rattle.questions.proofs.boxes.ends.ends_on.Goals as goal

pub returns : goal.returns
returns c = λ numbers point inside.
    c.ends_of.ensures (number_on numbers c.args.field) (omega (arith, point c.args.field, c.requires.small)) (set_has c.args.sets.now numbers c.index.result c.args.field c.index-sets-index.result c.requires.whole c.index.ensures.place c.index-sets-index.is inside)
