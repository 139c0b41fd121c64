use Rattle.table.proofs.laws.edits.EditLaws.{AreEmptied}
use Rattle.table.proofs.parts.Parts.empty_all.Given as goal

abbrev pub invariant-loop-place : goal.invariant-loop-place
invariant-loop-place l = AreEmptied l.fn.self.chains.slots l.chains.slots l.fn.self.order.items l.place
