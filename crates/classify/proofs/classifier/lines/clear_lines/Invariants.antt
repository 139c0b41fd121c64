use Rattle.std.proofs.Common.{◌≡◌, ◌∷◌, []}
use Rattle.classify.specs.steps.Fields.{shown_line, FreesAll}
use Rattle.classify.proofs.laws.line.LoopLaws.{Edited}
use Rattle.classify.proofs.classifier.lines.clear_lines.Given as goal

abbrev pub invariant-loop-k : goal.invariant-loop-k
invariant-loop-k l = Edited (λ _ p q. (shown_line q ≡ (0, []) ∷ []) × FreesAll p q) l.fn.lines l.lines l.k
