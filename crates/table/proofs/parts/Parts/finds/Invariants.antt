use Rattle.std.proofs.Common.{◌-◌}
use Rattle.table.specs.steps.Search.{IsSearch}
use Rattle.table.proofs.parts.Parts.finds.Given as goal

abbrev pub invariant-loop-at : goal.invariant-loop-at
invariant-loop-at l = IsSearch l.self.chains.slots l.self.order.items l.from l.seen.items l.reached.items l.at

abbrev pub decreases-loop-at : goal.decreases-loop-at
decreases-loop-at l = 1027 - l.at
