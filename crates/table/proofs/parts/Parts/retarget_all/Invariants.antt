use Rattle.table.specs.steps.Kept.{AreRetargeted}
use Rattle.table.proofs.parts.Parts.retarget_all.Given as goal

abbrev pub invariant-loop-place : goal.invariant-loop-place
invariant-loop-place l = AreRetargeted l.fn.self.chains.slots l.chains.slots l.fn.self.order.items l.key l.name l.place
