use Rattle.std.proofs.Common.{◌∙◌, ◌<◌, sym, ap, arith, length, get_or}
use Rattle.std.specs.Prelude.{nat_lt}
use Rattle.std.proofs.lemmas.Bool.{lt-ltb, le-ltb}
use Rattle.std.proofs.lemmas.List.{length-map}
use Rattle.table.specs.edits.Edits.{has_rules}
use Rattle.table.specs.steps.StoredChains.{StoredChain, rule_in}
use Rattle.table.specs.steps.Kept.{stored_at}
use Rattle.table.proofs.laws.edits.DeleteLaws.{stored_here, users_any, users_none}
use Rattle.table.proofs.parts.Parts.some_has_rules.Goals as goal

pub returns-then-len-gt0 : goal.returns-then-len-gt0
returns-then-len-gt0 c =
    let slots = c.args.self.now.chains.slots in
    let order = c.args.self.now.order.items in
    let place = c.loop-place.place in
    let lt : place < length order = omega (arith, c.loop-place-test.true, c.loop-place.auto.place-end, c.len-place-end.ensures) in
    let here = stored_here slots order place c.index.result.now c.index-in-loop-place.result.now lt c.index.ensures c.index-in-loop-place.ensures in
    let some : 0 < length (stored_at slots (get_or order place 0)).entries = omega (arith, c.if-len-gt0.true, c.len.ensures, ap (λ (r : StoredChain). length r.entries) here) in
    sym (users_any c.args.self.now.policies slots order has_rules place c.requires.stored c.loop-place.auto.place lt (ap (nat_lt 0) (length-map (stored_at slots (get_or order place 0)).entries rule_in) ∙ lt-ltb 0 _ some))

pub returns : goal.returns
returns c =
    let slots = c.args.self.now.chains.slots in
    let order = c.args.self.now.order.items in
    sym (users_none c.args.self.now.policies slots order has_rules c.requires.stored (λ k user lt.
    ap (nat_lt 0) (length-map (stored_at slots (get_or order k 0)).entries rule_in)
    ∙ le-ltb 0 _ (c.loop-place.invariant k user (omega (arith, lt, c.loop-place-test.false, c.loop-place.auto.place-end, c.len-place-end.ensures)))))
