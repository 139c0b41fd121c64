use Rattle.std.proofs.Common.{◌≡◌, length}
use Rattle.table.specs.steps.Walking.{AreFound, state_of, IsState}
use Rattle.table.specs.steps.Kept.{listed}
use Rattle.table.specs.walk.Walk.{first_hit}
use Rattle.table.proofs.parts.Parts.advance.Given as goal

abbrev pub invariant-rests : goal.invariant-rests
invariant-rests g l = record {
  same : first_hit (listed l.self.chains.slots l.self.order.items) l.packet.values (state_of l.self.chains.slots l.fn.at l.fn.stack.items) ≡ first_hit (listed l.self.chains.slots l.self.order.items) l.packet.values (state_of l.self.chains.slots l.at l.stack.items);
  state : IsState l.self.order.items l.at l.stack.items;
  found : AreFound l.self.chains.slots l.packet.values l.found;
}

abbrev pub decreases-rests : goal.decreases-rests
decreases-rests g l = length l.stack.items
