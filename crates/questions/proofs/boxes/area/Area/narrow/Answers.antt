use Rattle.rules.proofs.laws.BoxLaws.{box_with}
use Rattle.std.proofs.Common.{◌∙◌}
use Rattle.questions.proofs.laws.AreaLaws.{narrowed_to}
use Rattle.questions.proofs.boxes.area.Area.narrow.Goals as goal

pub invariant_of-self : goal.invariant_of-self
invariant_of-self c = rw c.deref_mut.ensures.value (box_with c.self.inside.sets.value c.args.field c.index.result c.in_ok-shared.shared c.self.invariant c.index.ensures.place (c.in_ok-shared.ensures.top ∙ c.on.ensures.top))

pub returns : goal.returns
returns c =
    rw (← c.self.view_is, c.deref_mut.ensures.value) (narrowed_to c.self.inside.sets.value c.args.field c.in_ok-shared.shared c.args.wanted.now c.self.invariant
    (rw (c.on.ensures.set, ← c.self.view_is) at c.in_ok-shared.ensures.members) c.index.result c.index.ensures.place)
