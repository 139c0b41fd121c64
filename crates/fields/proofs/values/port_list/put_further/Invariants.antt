use Rattle.std.proofs.Common.{◌∷◌, take, flat_map}
use Rattle.fields.specs.values.PortRange.{ports_text}
use Rattle.fields.specs.text.Tap.{Wrote}
use Rattle.fields.proofs.values.port_list.put_further.Given as goal

abbrev pub invariant-loop-item : goal.invariant-loop-item
invariant-loop-item g l = Wrote g.W.Write.contents l.initial.output l.output (flat_map (λ item. 44 ∷ ports_text item) (take l.item-index l.items))
