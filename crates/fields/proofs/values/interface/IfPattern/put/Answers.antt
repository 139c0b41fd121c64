use Rattle.fields.proofs.laws.values.BareLaws.{interface_is_bare}
use Rattle.fields.proofs.values.interface.IfPattern.put.Goals as goal

pub returns-clause-word : goal.returns-clause-word
returns-clause-word g c = rw (← c.self.view_is) (interface_is_bare _ c.self.invariant)
