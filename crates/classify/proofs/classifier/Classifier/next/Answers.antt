use Rattle.rules.specs.rule.Allows.{allows_each}
use Rattle.classify.specs.Classifier.{box_matches}
use Rattle.classify.proofs.laws.search.NextLaws.{by_answers}
use Rattle.classify.proofs.classifier.Classifier.next.Goals as goal

pub returns-clause-boxes : goal.returns-clause-boxes
returns-clause-boxes c boxes h =
    by_answers (box_matches c.args.point.now) boxes c.at.result c.args.from c.next.result (c.at.ensures.boxes boxes h) c.next.ensures

pub returns-clause-rules : goal.returns-clause-rules
returns-clause-rules c rules h =
    by_answers (allows_each c.args.point.now) rules c.at.result c.args.from c.next.result (c.at.ensures.rules rules h) c.next.ensures
