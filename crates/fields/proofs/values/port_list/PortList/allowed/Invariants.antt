use Rattle.std.proofs.Common.{◌≡◌, ◌≤◌, ℕ, take}
use Rattle.fields.specs.numbers.Spans.{has}
use Rattle.fields.specs.values.PortList.{list_has_port}
use Rattle.fields.proofs.values.port_list.PortList.allowed.Given as goal

abbrev pub invariant-loop-item : goal.invariant-loop-item
invariant-loop-item l = record {
  top : l.set.top ≡ 65535;
  members : (x : ℕ) → x ≤ 65535 → has l.set.intervals x ≡ list_has_port (take l.item-index l.item-items) x;
}
