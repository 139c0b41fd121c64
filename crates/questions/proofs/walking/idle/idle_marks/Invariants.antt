use Rattle.std.proofs.Common.{◌≡◌, ℕ, ◌<◌, false, length, get_or, IsTrue, ◌↔◌}
use Rattle.table.specs.chains.Table.{chain_at}
use Rattle.questions.specs.Scopes.{table_of}
use Rattle.questions.specs.asked.Idle.{AreIdle}
use Rattle.questions.proofs.walking.idle.idle_marks.Given as goal

abbrev pub invariant-loop-place : goal.invariant-loop-place
invariant-loop-place l = record {
  long : length l.marks.items ≡ l.place;
  each : (k : ℕ) → k < length l.marks.items → IsTrue (get_or l.marks.items k false) ↔ AreIdle l.packet.values (chain_at (table_of l.subject) k).rules;
}
