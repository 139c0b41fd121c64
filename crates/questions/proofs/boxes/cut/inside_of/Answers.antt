use Rattle.questions.proofs.laws.PartLaws.{whole_inside}
use Rattle.questions.proofs.boxes.cut.inside_of.Goals as goal

pub returns-in_ok-push-in-Parts : goal.returns-in_ok-push-in-Parts
returns-in_ok-push-in-Parts c = λ rule box numbers cut point m has.
    rw (c.in_ok-push-in-Parts.ensures.items, c.new-parts.ensures.items) (whole_inside rule box c.in-Parts.inside c.in-Parts._others.items numbers (rw c.in-Parts.is at cut) point m has)

pub returns-in-ByPorts : goal.returns-in-ByPorts
returns-in-ByPorts c = λ rule box numbers cut point m has.
    (rw c.in-ByPorts.is at cut).matched numbers point has m
