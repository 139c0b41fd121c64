use Rattle.classify.specs.steps.Kept.{AreUnmarked}
use Rattle.classify.proofs.classifier.whole.unmarked.Given as goal

abbrev pub invariant-loop-k : goal.invariant-loop-k
invariant-loop-k l = AreUnmarked l.marks l.k l.places.items
