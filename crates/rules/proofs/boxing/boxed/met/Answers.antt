use Rattle.rules.proofs.laws.BoxLaws.{met_all}
use Rattle.rules.proofs.boxing.boxed.met.Goals as goal

pub returns-then-has_all-clause-members : goal.returns-then-has_all-clause-members
returns-then-has_all-clause-members c = met_all c.args.before.now.top c.args.before.now.intervals c.args.asked.top c.args.asked.intervals c.requires (c.has_all.ensures c.if-has_all.true) c.intervals-within.ensures.canonical
