use Rattle.rules.proofs.laws.BoxLaws.{top_on}
use Rattle.rules.proofs.boxing.boxed.Boxed.on.Goals as goal

pub returns-clause-top : goal.returns-clause-top
returns-clause-top c = top_on c.self.inside.spans c.self.invariant c.args.field c.index.result c.index-self-index.result c.index.ensures.place
