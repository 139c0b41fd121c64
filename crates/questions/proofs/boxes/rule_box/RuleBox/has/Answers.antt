use Rattle.questions.specs.boxes.Cut.{AreWholeBut}
use Rattle.questions.proofs.boxes.rule_box.RuleBox.has.Goals as goal

pub has_on-requires-clause-narrow : goal.has_on-requires-clause-narrow
has_on-requires-clause-narrow c =
    let whole : AreWholeBut c.self.inside.narrow c.spans.result.now = rw (c.spans.ensures.value, c.deref.ensures) c.self.invariant.1 in
    whole

pub returns : goal.returns
returns c = rw (← c.self.view_is) (rw (c.spans.ensures.value, c.deref.ensures) at c.has_on.ensures)
