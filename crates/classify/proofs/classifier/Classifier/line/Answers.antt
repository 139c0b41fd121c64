use Rattle.std.proofs.Common.{◌≡◌, ◌∙◌, arith}
use Rattle.std.proofs.lemmas.Grind.{common_steps}
use Rattle.classify.specs.Classifier.{line_on}
use Rattle.classify.proofs.laws.classifier.RuleLaws.{rules_line}
use Rattle.classify.proofs.classifier.Classifier.line.Goals as goal

pub returns-clause-rules : goal.returns-clause-rules
returns-clause-rules c rs h =
    let e : c.of.result ≡ line_on c.args.field c.args.self.now.shown = grind (arith, common_steps) in
    e ∙ rules_line rs c.args.field c.args.self.now.shown h
