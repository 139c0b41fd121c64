use Rattle.std.proofs.Common.{get_or}
use Rattle.fields.specs.numbers.Spans.{SpanSet}
use Rattle.classify.specs.steps.Edits.{IsMergeOf}
use Rattle.classify.specs.steps.Fields.{shown_line, HasSameRoom}
use Rattle.classify.proofs.laws.line.LoopLaws.{Edited}
use Rattle.classify.proofs.classifier.lines.unsplit_lines.Given as goal

abbrev pub invariant-loop-k : goal.invariant-loop-k
invariant-loop-k l = Edited (λ j p q. (s : SpanSet) → IsMergeOf (get_or l.spans j s).top (shown_line p) (shown_line q) × HasSameRoom p q) l.fn.lines l.lines l.k
