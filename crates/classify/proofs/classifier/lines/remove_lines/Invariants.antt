use Rattle.classify.specs.steps.Fields.{LosesBox}
use Rattle.classify.proofs.laws.line.LoopLaws.{Edited}
use Rattle.classify.proofs.classifier.lines.remove_lines.Given as goal

abbrev pub invariant-loop-k : goal.invariant-loop-k
invariant-loop-k l = Edited (λ _ p q. LosesBox l.at p q) l.fn.lines l.lines l.k
