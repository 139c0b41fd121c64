use Rattle.std.proofs.Common.{◌≡◌, ◌||◌, List, take, get_or, ap, sym, ◌∙◌, arith}
use Rattle.std.proofs.lemmas.List.{take_all}
use Rattle.std.proofs.lemmas.List.Folds.{list_any_more}
use Rattle.fields.specs.values.PortRange.{Ports, has_port}
use Rattle.fields.specs.values.PortList.{list_has_port}
use Rattle.fields.specs.numbers.Spans.{SpanSet, has}
use Rattle.fields.proofs.values.port_list.PortList.allowed.Goals as goal

pub loop-item-init : goal.loop-item-init
loop-item-init c = record {
  top = ap (λ (s : SpanSet). s.top) c.none-set.ensures;
  members = λ x le. ap (λ (s : SpanSet). has s.intervals x) c.none-set.ensures;
}

pub loop-item-preserved : goal.loop-item-preserved
loop-item-preserved c = record {
  top = c.in_ok-set.ensures.top ∙ c.loop-item.invariant.top;
  members = λ x le. (
      let item : get_or c.items-item-items.result.now c.loop-item.item-index c.item-item.result ≡ c.item-item.result = sym c.item-item.is in
      let more = list_any_more (λ (ports : Ports). has_port ports x) c.items-item-items.result.now c.loop-item.item-index c.item-item.result c.loop-item-test.true in
      c.in_ok-set.ensures.members x (omega (arith, le, c.loop-item.invariant.top))
      ∙ ap (λ b. b || has c.in_ok-ports.ports.intervals x) (c.loop-item.invariant.members x le)
      ∙ ap (λ b. list_has_port (take c.loop-item.item-index c.items-item-items.result.now) x || b) (c.in_ok-ports.ensures.members x le)
      ∙ ap (λ (ports : Ports). list_has_port (take c.loop-item.item-index c.items-item-items.result.now) x || has_port ports x) (sym item)
      ∙ sym more);
}

pub returns-clause-members : goal.returns-clause-members
returns-clause-members c x le =
    let all = take_all c.loop-item.item-index c.items-item-items.result.now (omega arith) in
    c.loop-item.invariant.members x le ∙ ap (λ (items : List Ports). list_has_port items x) (all ∙ c.items-item-items.ensures.value)
