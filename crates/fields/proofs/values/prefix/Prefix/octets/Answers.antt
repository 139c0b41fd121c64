use Rattle.fields.proofs.laws.values.PrefixLaws.{prefix_of-prefix_text}
use Rattle.fields.proofs.values.prefix.Prefix.octets.Goals as goal

pub returns-clause-reads_back : goal.returns-clause-reads_back
returns-clause-reads_back c = rw (← c.self.view_is) (prefix_of-prefix_text _ c.self.invariant)
