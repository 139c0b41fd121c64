use Rattle.std.proofs.Common.{◌≡◌, ◌∙◌, refl, sym, arith, subst, length, ℕ}
use Rattle.std.proofs.lemmas.List.{get_or_default}
use Rattle.table.proofs.laws.edits.EditLaws.{AreEmptied, next_emptied, all_emptied, all_kept}
use Rattle.table.proofs.parts.Parts.empty_all.Goals as goal

pub loop-place-preserved : goal.loop-place-preserved
loop-place-preserved c =
    let order = c.args.self.now.order.items in
    let key = c.index-key.result.now in
    next_emptied c.args.self.now.chains.slots c.loop-place.chains.slots order c.loop-place.place key c.index_mut.result.now c.reset.new.self c.loop-place.invariant
    (get_or_default order c.loop-place.place 0 key (omega arith) ∙ sym c.index-key.ensures) c.index_mut.ensures.value c.reset.ensures.name
    (record { entries = c.reset.ensures.entries; references = c.reset.ensures.references; classified = c.reset.ensures.classified })

pub returns : goal.returns
returns c =
    let old = c.args.self.now.chains.slots in
    let new = c.loop-place.chains.slots in
    let order = c.args.self.now.order.items in
    let end : c.loop-place.place ≡ length order = omega (arith, c.loop-place-test.false, c.loop-place.auto.place-end, c.len-place-end.ensures) in
    let P : ℕ → Type 0 = λ n. AreEmptied old new order n in
    let all = subst P end c.loop-place.invariant in
    record { kept = all_kept c.args.self.now.policies old new order c.requires all; table = all_emptied c.args.self.now.policies old new order c.requires all; order = refl }
