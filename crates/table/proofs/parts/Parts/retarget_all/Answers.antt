use Rattle.std.proofs.Common.{◌≡◌, ◌∙◌, ◌<◌, sym, ap, arith, subst, length, ℕ, Option, unwrap_or}
use Rattle.std.proofs.lemmas.List.{get_or_default}
use Rattle.table.specs.steps.Kept.{blank, AreRetargeted}
use Rattle.table.specs.steps.StoredChains.{StoredChain}
use Rattle.table.proofs.laws.edits.RetargetLaws.{no_rule_retargeted, none_retargeted, next_retargeted, name_chains}
use Rattle.table.proofs.parts.Parts.retarget_all.Goals as goal

pub returns-then-references-eq0-clause-rules : goal.returns-then-references-eq0-clause-rules
returns-then-references-eq0-clause-rules c =
    no_rule_retargeted c.args.self.now.policies c.args.self.now.chains.slots c.args.self.now.order.items c.args.key c.args.name.now c.requires.kept c.requires.key
    (ap (λ (o : Option StoredChain). (unwrap_or o blank).references) c.index.ensures ∙ sym c.references.ensures ∙ c.if-references-eq0.true)

pub loop-place-init : goal.loop-place-init
loop-place-init c = none_retargeted c.args.self.now.policies c.args.self.now.chains.slots c.args.self.now.order.items c.args.key c.args.name.now c.requires.kept.stored

pub retarget-requires : goal.retarget-requires
retarget-requires c =
    let order = c.args.self.now.order.items in
    let at = c.index-at.result.now in
    let lt : c.loop-place.place < length order = omega (arith, c.loop-place-test.true, c.len-place-end.ensures) in
    name_chains c.args.self.now.policies c.args.self.now.chains.slots c.loop-place.chains.slots order c.args.key c.args.name.now c.loop-place.place at c.index_mut.result.now c.requires.kept.stored c.loop-place.invariant lt
    (get_or_default order c.loop-place.place 0 at lt ∙ sym c.index-at.ensures) c.index_mut.ensures.value

pub loop-place-preserved : goal.loop-place-preserved
loop-place-preserved c =
    let order = c.args.self.now.order.items in
    let at = c.index-at.result.now in
    let lt : c.loop-place.place < length order = omega (arith, c.loop-place-test.true, c.len-place-end.ensures) in
    next_retargeted c.args.self.now.policies c.args.self.now.chains.slots c.loop-place.chains.slots order c.args.key c.args.name.now c.loop-place.place at c.index_mut.result.now c.retarget.new.self c.requires.kept.stored c.loop-place.invariant lt
    (get_or_default order c.loop-place.place 0 at lt ∙ sym c.index-at.ensures) c.index_mut.ensures.value c.retarget.ensures.name c.retarget.ensures.entries c.retarget.ensures.references c.retarget.ensures.classified

pub returns-clause-rules : goal.returns-clause-rules
returns-clause-rules c =
    let end : c.loop-place.place ≡ length c.args.self.now.order.items = omega (arith, c.loop-place-test.false, c.loop-place.auto.place-end, c.len-place-end.ensures) in
    let P : ℕ → Type 0 = λ n. AreRetargeted c.args.self.now.chains.slots c.loop-place.chains.slots c.args.self.now.order.items c.args.key c.args.name.now n in
    subst P end c.loop-place.invariant
