use Rattle.std.proofs.Common.{get_or}
use Rattle.fields.specs.numbers.Spans.{SpanSet}
use Rattle.classify.specs.steps.Pieces.{CutsStart, IsSplitOf}
use Rattle.classify.specs.steps.Fields.{shown_line, IsKeptWithCuts, HasSameRoom}
use Rattle.classify.proofs.laws.line.LoopLaws.{Edited}
use Rattle.classify.proofs.classifier.lines.split_lines.Given as goal

abbrev pub invariant-loop-k : goal.invariant-loop-k
invariant-loop-k l = Edited (λ j p q. (s : SpanSet) → IsSplitOf (get_or l.spans j s).top (get_or l.spans j s).intervals (shown_line p) (shown_line q) × CutsStart (get_or l.spans j s).top (get_or l.spans j s).intervals (shown_line q) × IsKeptWithCuts (get_or l.spans j s) p q × HasSameRoom p q) l.fn.lines l.lines l.k
