use Rattle.std.proofs.Common.{◌∷◌}
use Rattle.fields.specs.values.PortRange.{Ports, ports_text}
use Rattle.fields.proofs.laws.text.PutLaws.{puts-stopped, stopped-item}
use Rattle.fields.proofs.values.port_list.put_further.Goals as goal

pub returns-in_err-put_next : goal.returns-in_err-put_next
returns-in_err-put_next g c =
    puts-stopped _ _ _ _ _ c.from_residual.ensures.0
    (stopped-item (λ (item : Ports). 44 ∷ ports_text item) c.args.items.now c.loop-item.item-index c.item-item.result c.loop-item-test.true c.item-item.is c.loop-item.invariant c.in_err-put_next.ensures)
