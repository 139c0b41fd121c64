use Rattle.std.proofs.Common.{◌≡◌, ◌≤◌}
use Rattle.table.specs.steps.Walking.{AreFound, state_of, IsState, walk_at}
use Rattle.table.specs.steps.Kept.{listed}
use Rattle.table.specs.walk.Depth.{depth_within}
use Rattle.table.specs.walk.Walk.{walk_within}
use Rattle.table.proofs.laws.walk.WalkLaws.{verdict_in}
use Rattle.table.proofs.parts.Parts.decide_within.Given as goal

abbrev pub invariant-walk : goal.invariant-walk
invariant-walk g l = record {
  same : verdict_in (walk_within l.left (listed l.self.chains.slots l.self.order.items) l.policy l.packet.values (state_of l.self.chains.slots l.at l.stack.items))
      ≡ (walk_at 65536 l.self.chains.slots l.self.order.items l.hook l.policy l.packet.values).verdict;
  state : IsState l.self.order.items l.at l.stack.items;
  found : AreFound l.self.chains.slots l.packet.values l.found;
  depth : depth_within l.left (listed l.self.chains.slots l.self.order.items) l.packet.values (state_of l.self.chains.slots l.at l.stack.items) ≤ 1024;
}

abbrev pub decreases-walk : goal.decreases-walk
decreases-walk g l = l.left
