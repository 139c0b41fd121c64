use Rattle.rules.proofs.laws.printing.RoundTripLaws.{is_readable, is_in_order}
use Rattle.rules.proofs.rule.Rule.spec.Goals as goal

pub returns-clause-ordered : goal.returns-clause-ordered
returns-clause-ordered c = rw (← c.self.view_is) (is_in_order c.self.inside.kept c.self.invariant)

pub returns-clause-readable : goal.returns-clause-readable
returns-clause-readable c = rw (← c.self.view_is) (is_readable c.self.inside.kept c.self.invariant)
