use Rattle.std.proofs.Common.{◌≡◌, rules, codes}
use Rattle.fields.proofs.laws.values.InterfaceLaws.{any-holds}
use Rattle.fields.proofs.values.interface.IfPattern.is_any.Goals as goal

pub returns-clause-all : goal.returns-clause-all
returns-clause-all c = λ found. any-holds c.args.self.now (let same : c.args.self.now ≡ codes "+" = search rules in same)
