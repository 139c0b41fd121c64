use Rattle.std.proofs.Common.{◌≡◌, rules, Some}
use Rattle.fields.specs.values.Interface.{interface_of, interface_interval}
use Rattle.fields.proofs.laws.values.InterfaceLaws.{interval-holds, interval-ordered, interval-closed}
use Rattle.fields.proofs.values.interface.IfPattern.interval.Goals as goal

pub returns-then-is_open-clause-exact : goal.returns-then-is_open-clause-exact
unfolding interface_interval
returns-then-is_open-clause-exact c = interval-holds c.args.self.now (c.filled_value.result, c.filled_value-then-is_open.result) (search rules) (search rules)

pub returns-then-is_open-clause-ordered : goal.returns-then-is_open-clause-ordered
unfolding interface_interval
returns-then-is_open-clause-ordered c = interval-ordered c.args.self.now (c.filled_value.result, c.filled_value-then-is_open.result) (search rules) (search rules)

pub returns-else-is_open-clause-exact : goal.returns-else-is_open-clause-exact
returns-else-is_open-clause-exact c =
    let reads : interface_of c.args.self.now ≡ Some c.args.self.now = search rules in
    let same = interval-closed c.args.self.now reads (search rules) in
    interval-holds c.args.self.now (c.filled_value-value.result, c.filled_value-value.result) reads (search (rules, same))
