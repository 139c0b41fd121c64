use Rattle.std.proofs.Common.{◌≡◌, ℕ, length, None}
use Rattle.table.specs.edits.Edits.{DeleteChains, edited, fault_of}
use Rattle.table.specs.steps.Kept.{IsIn, AreKept, table_of}
use Rattle.table.proofs.parts.Parts.remove_user_chains.Given as goal

-- the user chains that are left may all go, and leave what all would
abbrev pub invariant-loop-self : goal.invariant-loop-self
invariant-loop-self l = record {
  kept : AreKept l.self;
  accepted : fault_of DeleteChains (table_of l.self) ≡ None;
  same : edited DeleteChains (table_of l.self) ≡ edited DeleteChains (table_of l.fn.self);
  fewer : (key : ℕ) → IsIn l.self.order.items key → IsIn l.fn.self.order.items key;
}

abbrev pub decreases-loop-self : goal.decreases-loop-self
decreases-loop-self l = length l.self.order.items
