use Rattle.std.proofs.Common.{ℕ, List, not, sym}
use Rattle.rules.specs.options.Values.{both_ports_in}
use Rattle.rules.specs.rule.Crossing.{has_either_port, option_value_crosses, ports_cross}
use Rattle.rules.proofs.laws.rule.CrossLaws.{says_alike}
use Rattle.rules.proofs.options.option_value.OptionValue.says.Goals as goal

pub returns-then-self-clause-says : goal.returns-then-self-clause-says
returns-then-self-clause-says c =
    says_alike (λ (numbers : List ℕ). not (has_either_port c.in-Ports.list numbers)) (λ numbers. option_value_crosses numbers c.args.self.now) c.args.source.now c.args.destination.now c.turned.result
    (λ numbers. sym (λ i. ports_cross (c.if-self.true i) (both_ports_in (c.in-Ports.is i)) numbers))
    (c.turned.ensures.says (has_either_port c.in-Ports.list) c.args.source.now c.args.destination.now c.in_ok-said.ensures.says)
