use Rattle.std.proofs.Common.{◌≡◌, ◌<◌, ◌++◌, ◌∷◌, ◌∙◌, ap, sym, length, flat_map, rules}
use Rattle.std.proofs.lemmas.List.{take_rest}
use Rattle.fields.specs.values.PortRange.{Ports, ports_text}
use Rattle.fields.specs.values.PortList.{port_list_text}
use Rattle.fields.proofs.laws.text.PutLaws.{puts-after}
use Rattle.fields.proofs.laws.values.PortListLaws.{port_list_text-parts}
use Rattle.fields.proofs.values.port_list.PortList.put.Goals as goal

pub returns-clause-puts : goal.returns-clause-puts
returns-clause-puts g c =
    let items = c.as_slice-items.result.now in
    let same : items ≡ c.args.self.now = search rules in
    let some : 0 < length items = search (rules, c.self.invariant.some) in
    let parts = port_list_text-parts items c.index-items-0.result some c.index-items-0.is in
    let rest = ap (λ xs. ports_text c.index-items-0.result ++ flat_map (λ (next : Ports). 44 ∷ ports_text next) xs) (sym (take_rest items 1)) in
    puts-after _ _ (port_list_text c.args.self.now) _ _ _ (ports_text c.index-items-0.result) _ (ap port_list_text (sym same) ∙ parts ∙ rest) c.in_ok-put.ensures.puts c.put_further.ensures
