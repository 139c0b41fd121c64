use Rattle.std.proofs.Common.{◌≡◌, ◌<◌, ◌≤◌, length, List}
use Rattle.table.specs.steps.Walking.{AreFound, state_of, IsState, walk_at}
use Rattle.table.specs.steps.Kept.{listed}
use Rattle.table.specs.walk.Depth.{depth_within}
use Rattle.table.specs.walk.Walk.{Entry, walk_within}
use Rattle.table.proofs.laws.walk.WalkLaws.{after, AreShown}
use Rattle.table.proofs.parts.Parts.trace_within.Given as goal

abbrev pub invariant-walk : goal.invariant-walk
invariant-walk g l = record {
  entries : List Entry;
  shown : AreShown (listed l.self.chains.slots l.self.order.items) entries l.steps.items;
  same : after entries (walk_within l.left (listed l.self.chains.slots l.self.order.items) l.policy l.packet.values (state_of l.self.chains.slots l.at l.stack.items))
      ≡ walk_at 65536 l.self.chains.slots l.self.order.items l.hook l.policy l.packet.values;
  state : IsState l.self.order.items l.at l.stack.items;
  found : AreFound l.self.chains.slots l.packet.values l.found;
  last : l.last < length l.self.order.items;
  depth : depth_within l.left (listed l.self.chains.slots l.self.order.items) l.packet.values (state_of l.self.chains.slots l.at l.stack.items) ≤ 1024;
}

abbrev pub decreases-walk : goal.decreases-walk
decreases-walk g l = l.left
