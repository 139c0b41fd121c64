use Rattle.rules.proofs.laws.rule.EqualityLaws.{same-contents}
use Rattle.rules.proofs.rule.spec.same_spec.Goals as goal

pub returns : goal.returns
returns c = rw c.eq.ensures (same-contents c.args.a.now c.args.b.now)
