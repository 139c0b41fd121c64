use Rattle.questions.specs.boxes.Boxes.{HasNumbers}
use Rattle.questions.specs.boxes.Cut.{AreWholeBut}
use Rattle.questions.proofs.boxes.rule_box.RuleBox.is_apart.Goals as goal

pub returns-else-is_outside-clause-some : goal.returns-else-is_outside-clause-some
returns-else-is_outside-clause-some c = λ off some.
    let whole : AreWholeBut c.self.inside.narrow c.spans.result.now = rw (c.spans.ensures.value, c.deref.ensures) c.self.invariant.1 in
    let own : HasNumbers c.sets.result.now = rw c.sets.ensures.value some in
    let met = c.are_apart.ensures.some off own whole in
    rw (← c.self.view_is) (rw (c.sets.ensures.value, c.spans.ensures.value, c.deref.ensures) at met)
