use Rattle.std.proofs.Common.{◌<◌}
use Rattle.classify.specs.steps.Fields.{IsRoomier, TakesNoneBeside}
use Rattle.classify.proofs.laws.line.LoopLaws.{Edited}
use Rattle.classify.proofs.classifier.lines.reserve_lines.Given as goal

abbrev pub invariant-loop-k : goal.invariant-loop-k
invariant-loop-k l = Edited (λ _ p q. IsRoomier p q × (0 < q.room.places) × TakesNoneBeside l.at p q) l.fn.lines l.lines l.k
