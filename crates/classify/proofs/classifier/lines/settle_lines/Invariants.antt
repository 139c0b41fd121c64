use Rattle.std.proofs.Common.{get_or}
use Rattle.fields.specs.numbers.Spans.{SpanSet}
use Rattle.classify.specs.steps.Fields.{TakesOver}
use Rattle.classify.proofs.laws.line.LoopLaws.{Edited}
use Rattle.classify.proofs.classifier.lines.settle_lines.Given as goal

abbrev pub invariant-loop-k : goal.invariant-loop-k
invariant-loop-k l = Edited (λ j p q. (s : SpanSet) → TakesOver l.at (get_or l.spans j s) p q) l.fn.lines l.lines l.k
