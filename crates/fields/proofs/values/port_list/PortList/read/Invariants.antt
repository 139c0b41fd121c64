use Rattle.std.proofs.Common.{◌≡◌, ◌+◌, ◌≤◌, ◌++◌, length}
use Rattle.std.specs.Prelude.{option_map}
use Rattle.fields.specs.values.PortList.{port_items_of, port_list_of}
use Rattle.fields.proofs.values.port_list.PortList.read.Given as goal

-- what was read, and what the rest reads as, is the list
abbrev pub invariant-loop-part : goal.invariant-loop-part
invariant-loop-part l =
    (option_map (λ more. l.items.items ++ more) (port_items_of l.room l.rest) ≡ port_list_of l.text) × (length l.items.items + l.room ≤ 15)

abbrev pub decreases-loop-part : goal.decreases-loop-part
decreases-loop-part l = length l.rest
