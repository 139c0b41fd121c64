use Rattle.std.proofs.Common.{◌≡◌, take}
use Rattle.table.proofs.chain.copy.copy_entries.Given as goal

abbrev pub invariant-loop-entry : goal.invariant-loop-entry
invariant-loop-entry l = l.copy.items ≡ take l.entry-index l.entries
