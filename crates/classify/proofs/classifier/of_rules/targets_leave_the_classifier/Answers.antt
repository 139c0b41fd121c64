use Rattle.classify.proofs.laws.classifier.RuleLaws.{same_numbers, renamed_at, renamed_where}
use Rattle.classify.proofs.classifier.of_rules.targets_leave_the_classifier.Goals as goal

pub returns-clause-same : goal.returns-clause-same
returns-clause-same c = same_numbers

pub returns-clause-renamed_one : goal.returns-clause-renamed_one
returns-clause-renamed_one c = renamed_at

pub returns-clause-renamed_many : goal.returns-clause-renamed_many
returns-clause-renamed_many c = renamed_where
