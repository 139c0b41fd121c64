use Rattle.std.proofs.Common.{get_or}
use Rattle.table.proofs.laws.SearchLaws.{IsVisit}
use Rattle.table.proofs.parts.Parts.visit.Given as goal

abbrev pub invariant-loop-place : goal.invariant-loop-place
invariant-loop-place l =
    IsVisit l.self.chains.slots l.self.order.items (get_or l.fn.reached.items 0 0) l.seen.items l.reached.items l.at l.edges l.place
