use Rattle.std.proofs.Common.{◌≡◌, length, ◌∙◌, rules}
use Rattle.fields.specs.declared.numbers.field.TheConstants.{FIELDS}
use Rattle.questions.proofs.laws.AreaLaws.{all_at_hook, box_of_hook, only_at_hook}
use Rattle.questions.proofs.boxes.area.Area.at_hook.Goals as goal

pub invariant_of-result : goal.invariant_of-result
invariant_of-result c =
    let long : length c.open.new.sets ≡ FIELDS = c.open.auto.sets ∙ search rules in
    rw c.in_ok-new.ensures.ok (box_of_hook c.args.hook c.open.new.sets c.in_ok-open.ensures long)

pub returns-clause-all : goal.returns-clause-all
returns-clause-all c = rw c.in_ok-new.ensures.ok (all_at_hook c.args.hook c.open.new.sets c.in_ok-open.ensures)

pub returns-clause-only : goal.returns-clause-only
returns-clause-only c = rw c.in_ok-new.ensures.ok (only_at_hook c.args.hook c.open.new.sets c.in_ok-open.ensures)
