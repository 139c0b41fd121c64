use Rattle.rulesets.proofs.RulesByLinesLaws.{rules_stand_beside_needs}
use Rattle.rulesets.proofs.laws.rules_stand_beside_needs.Goals as goal

pub returns : goal.returns
returns c = rules_stand_beside_needs
