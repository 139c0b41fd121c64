use Rattle.table.proofs.laws.SearchLaws.{AreLeft}
use Rattle.table.proofs.search.unmark.Given as goal

abbrev pub invariant-loop-at : goal.invariant-loop-at
invariant-loop-at l = AreLeft l.order.items l.seen.items l.reached.items l.at
