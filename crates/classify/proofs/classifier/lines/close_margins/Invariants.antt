use Rattle.classify.specs.steps.Fields.{IsClosedUp}
use Rattle.classify.proofs.laws.line.LoopLaws.{Edited}
use Rattle.classify.proofs.classifier.lines.close_margins.Given as goal

abbrev pub invariant-loop-k : goal.invariant-loop-k
invariant-loop-k l = Edited (λ _ p q. IsClosedUp p q) l.fn.lines l.lines l.k
