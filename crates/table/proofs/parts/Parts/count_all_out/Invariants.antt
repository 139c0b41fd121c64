use Rattle.std.proofs.Common.{◌≡◌, ℕ, ◌+◌, take}
use Rattle.std.specs.Prelude.{count_by}
use Rattle.table.specs.steps.Kept.{AreRecounted, references_at, stored_at}
use Rattle.table.specs.steps.StoredChains.{leads_to}
use Rattle.table.specs.declared.chain.entry.Entry.{Entry}
use Rattle.table.proofs.parts.Parts.count_all_out.Given as goal

-- the rules passed were counted out
abbrev pub invariant-loop-at : goal.invariant-loop-at
invariant-loop-at l = record {
  same : AreRecounted l.fn.self.chains.slots l.chains.slots;
  counted : (k : ℕ) → references_at l.chains.slots k + count_by (λ (e : Entry). leads_to k e.flow) (take l.at (stored_at l.fn.self.chains.slots l.key).entries)
      ≡ references_at l.fn.self.chains.slots k;
}
