use Rattle.classify.proofs.laws.classifier.RuleLaws.{computed_line}
use Rattle.classify.proofs.classifier.of_rules.rules_have_the_computed_line.Goals as goal

pub returns : goal.returns
returns c = computed_line
