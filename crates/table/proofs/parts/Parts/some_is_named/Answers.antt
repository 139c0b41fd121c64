use Rattle.std.proofs.Common.{◌∙◌, ◌<◌, sym, ap, arith, length, get_or, Bool}
use Rattle.std.proofs.lemmas.Bool.{lt-ltb, le-ltb}
use Rattle.table.specs.chains.Table.{Chain, is_referenced}
use Rattle.table.specs.steps.StoredChains.{StoredChain}
use Rattle.table.specs.steps.Kept.{listed, references_at}
use Rattle.table.proofs.laws.edits.DeleteLaws.{stored_here, referenced_is, users_any, users_none}
use Rattle.table.proofs.parts.Parts.some_is_named.Goals as goal

pub returns-then-references-gt0 : goal.returns-then-references-gt0
returns-then-references-gt0 c =
    let slots = c.args.self.now.chains.slots in
    let order = c.args.self.now.order.items in
    let place = c.loop-place.place in
    let lt : place < length order = omega (arith, c.loop-place-test.true, c.loop-place.auto.place-end, c.len-place-end.ensures) in
    let here = stored_here slots order place c.index.result.now c.index-in-loop-place.result.now lt c.index.ensures c.index-in-loop-place.ensures in
    let some : 0 < references_at slots (get_or order place 0) = omega (arith, c.if-references-gt0.true, c.references.ensures, ap (λ (r : StoredChain). r.references) here) in
    let named : Chain → Bool = λ (x : Chain). is_referenced (listed slots order) x.name in
    sym (users_any c.args.self.now.policies slots order named place c.requires.stored c.loop-place.auto.place lt (referenced_is c.args.self.now.policies slots order place c.requires lt ∙ lt-ltb 0 _ some))

pub returns : goal.returns
returns c =
    let slots = c.args.self.now.chains.slots in
    let order = c.args.self.now.order.items in
    let named : Chain → Bool = λ (x : Chain). is_referenced (listed slots order) x.name in
    sym (users_none c.args.self.now.policies slots order named c.requires.stored (λ k user lt.
    referenced_is c.args.self.now.policies slots order k c.requires lt ∙ le-ltb 0 _ (c.loop-place.invariant k user (omega (arith, lt, c.loop-place-test.false, c.loop-place.auto.place-end, c.len-place-end.ensures)))))
