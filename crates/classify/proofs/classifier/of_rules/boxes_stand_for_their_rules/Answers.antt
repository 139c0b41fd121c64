use Rattle.classify.proofs.laws.classifier.RuleLaws.{each_has_a_box, classifier_of_boxes, matches_of_rules}
use Rattle.classify.proofs.classifier.of_rules.boxes_stand_for_their_rules.Goals as goal

pub returns-clause-each : goal.returns-clause-each
returns-clause-each c = each_has_a_box

pub returns-clause-classifier : goal.returns-clause-classifier
returns-clause-classifier c = classifier_of_boxes

pub returns-clause-matches : goal.returns-clause-matches
returns-clause-matches c = matches_of_rules
