use Rattle.std.proofs.Common.{◌≡◌, ◌≤◌, ◌∙◌, ◌<◌, Bool, List, length, false, get_or, sym, arith}
use Rattle.std.proofs.lemmas.Bool.{false≢true}
use Rattle.std.proofs.lemmas.List.{get_or_default}
use Rattle.table.proofs.laws.SearchLaws.{search_first, search_found}
use Rattle.table.proofs.parts.Parts.finds.Goals.{then-loop-at-test+else-not-index, else-loop-at-test}
use Rattle.table.proofs.parts.Parts.finds.Goals as goal

pub mark-requires-clause-within : goal.mark-requires-clause-within
mark-requires-clause-within c = c.requires.clear.within c.args.from c.requires.from

pub loop-at-init : goal.loop-at-init
loop-at-init c =
    search_first c.args.self.now.policies c.args.self.now.chains.slots c.args.self.now.order.items c.args.from c.args.seen.now.items c.new-reached.result.items c.mark.new.seen.items c.mark.new.reached.items
    c.requires.kept c.requires.from c.requires.clear c.new-reached.ensures c.mark.ensures

pub index-requires : goal.index-requires
index-requires c = omega (arith, c.loop-at.invariant.marked.within c.args.goal c.requires.goal, c.loop-at.seen.ok)

pub index-found-requires : goal.index-found-requires
index-found-requires c = omega (arith, c.loop-at.invariant.marked.within c.args.goal c.requires.goal, c.loop-at.seen.ok)

pub returns-clause-found : goal.returns-clause-found
returns-clause-found c =
    let seen : List Bool = c.loop-at.seen.items in
    let within : c.args.goal < length seen = c.loop-at.invariant.marked.within c.args.goal c.requires.goal in
    let over : get_or seen c.args.goal false ≡ false → length c.loop-at.reached.items ≤ c.loop-at.at =
    λ missed. elim c.loop-at-test.branch [
      | then-loop-at-test+else-not-index w ↦ absurd (false≢true (sym missed ∙ get_or_default seen c.args.goal false w.index.result.now within ∙ sym w.index.ensures ∙ w.if-not-index.false))
      | else-loop-at-test w ↦ omega (arith, w.loop-at-test.false, c.len.ensures.value)
    ] in
    c.index-found.ensures ∙ sym (get_or_default seen c.args.goal false c.index-found.result.now within)
    ∙ search_found c.args.self.now.policies c.args.self.now.chains.slots c.args.self.now.order.items c.args.from c.args.goal seen c.loop-at.reached.items c.loop-at.at c.requires.kept c.requires.goal c.loop-at.invariant over
