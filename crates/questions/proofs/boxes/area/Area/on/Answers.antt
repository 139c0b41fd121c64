use Rattle.rules.proofs.laws.BoxLaws.{top_on}
use Rattle.questions.proofs.boxes.area.Area.on.Goals as goal

pub returns-clause-top : goal.returns-clause-top
returns-clause-top c = rw c.deref.ensures (top_on c.self.inside.sets.value c.self.invariant c.args.field c.index.result c.index-deref-index.result c.index.ensures.place)
