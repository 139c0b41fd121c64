use Rattle.classify.proofs.laws.classifier.WholeLaws.{AreLeft}
use Rattle.classify.proofs.classifier.whole.unmark.Given as goal

abbrev pub invariant-loop-k : goal.invariant-loop-k
invariant-loop-k l = AreLeft l.fn.marks l.spans l.k l.marks
