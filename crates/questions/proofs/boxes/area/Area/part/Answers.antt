use Rattle.std.proofs.Common.{◌≡◌, length, ◌∙◌, rules}
use Rattle.fields.specs.declared.numbers.field.TheConstants.{FIELDS}
use Rattle.questions.proofs.laws.AreaLaws.{box_of_part}
use Rattle.questions.proofs.boxes.area.Area.part.Goals as goal

pub invariant_of-result : goal.invariant_of-result
invariant_of-result c =
    let long : length c.put_sides.new.sets ≡ FIELDS = c.put_sides.auto.sets ∙ search rules in
    rw c.in_ok-new.ensures.ok (box_of_part c.args.at c.args.own.now c.args.other.now c.put_sides.new.sets c.requires.own c.in_ok-put_sides.ensures long)

pub returns : goal.returns
returns c = rw c.in_ok-new.ensures.ok c.in_ok-put_sides.ensures
