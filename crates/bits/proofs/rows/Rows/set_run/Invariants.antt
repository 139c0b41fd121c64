use Rattle.std.proofs.Common.{◌≡◌, ◌≤◌, ◌-◌}
use Rattle.bits.specs.Rows.{IsRunWritten}
use Rattle.bits.proofs.rows.Rows.set_run.Given as goal

abbrev pub invariant-loop-next : goal.invariant-loop-next
invariant-loop-next l = record {
  written : IsRunWritten l.at l.bit l.from l.next l.fn.self.rows l.self.rows;
  begun : l.from ≤ l.next;
  ended : l.next ≤ l.to;
  room : l.self.room ≡ l.fn.self.room;
}

abbrev pub decreases-loop-next : goal.decreases-loop-next
decreases-loop-next l = l.to - l.next
