use Rattle.std.proofs.Common.{ℕ, ◌<◌, List, length, get_or, ap, arith}
use Rattle.table.specs.declared.chain.edges.Edge.{Edge}
use Rattle.table.proofs.laws.chains.CountLaws.{end_at}
use Rattle.table.proofs.laws.SearchLaws.{at_there, link_within, link_room, visit_first, visit_next, visit_over}
use Rattle.table.proofs.parts.Parts.visit.Goals as goal

-- no edge
abbrev none : Edge
none = record { to = 0; rules = 0 }

pub index-requires : goal.index-requires
index-requires c =
    at_there c.args.self.now.policies c.args.self.now.chains.slots c.args.self.now.order.items (get_or c.args.reached.now.items 0 0) (get_or c.deref.result.now c.args.at 0) c.args.seen.now.items c.args.reached.now.items c.args.at c.requires.kept c.requires.search c.requires.at
    (ap (λ (xs : List ℕ). get_or xs c.args.at 0) c.deref.ensures.0)

pub loop-place-init : goal.loop-place-init
loop-place-init c =
    visit_first c.args.self.now.chains.slots c.args.self.now.order.items (get_or c.args.reached.now.items 0 0) (get_or c.deref.result.now c.args.at 0) c.args.seen.now.items c.args.reached.now.items c.args.at c.index.result.now c.edges-edges.result.now c.requires.search c.requires.at
    (ap (λ (xs : List ℕ). get_or xs c.args.at 0) c.deref.ensures.0) c.index.ensures c.edges-edges.ensures

pub mark-requires-clause-within : goal.mark-requires-clause-within
mark-requires-clause-within c =
    let lt : c.loop-place.place < length c.edges-edges.result.now = omega arith in
    link_within c.args.self.now.policies c.args.self.now.chains.slots c.args.self.now.order.items (get_or c.args.reached.now.items 0 0) c.loop-place.seen.items c.loop-place.reached.items c.args.at c.edges-edges.result.now c.loop-place.place _ c.requires.kept c.loop-place.invariant lt
    (end_at c.edges-edges.result.now c.loop-place.place none lt)

pub mark-requires-clause-room : goal.mark-requires-clause-room
mark-requires-clause-room c =
    let lt : c.loop-place.place < length c.edges-edges.result.now = omega arith in
    link_room c.args.self.now.policies c.args.self.now.chains.slots c.args.self.now.order.items (get_or c.args.reached.now.items 0 0) c.loop-place.seen.items c.loop-place.reached.items c.args.at c.edges-edges.result.now c.loop-place.place _ c.requires.kept c.loop-place.invariant lt
    (end_at c.edges-edges.result.now c.loop-place.place none lt)

pub loop-place-preserved : goal.loop-place-preserved
loop-place-preserved c =
    let lt : c.loop-place.place < length c.edges-edges.result.now = omega arith in
    visit_next c.args.self.now.policies c.args.self.now.chains.slots c.args.self.now.order.items (get_or c.args.reached.now.items 0 0) c.loop-place.seen.items c.loop-place.reached.items c.args.at c.edges-edges.result.now c.loop-place.place _
    c.mark.new.seen.items c.mark.new.reached.items c.requires.kept c.loop-place.invariant lt (end_at c.edges-edges.result.now c.loop-place.place none lt) c.mark.ensures

pub returns : goal.returns
returns c =
    visit_over c.args.self.now.chains.slots c.args.self.now.order.items (get_or c.args.reached.now.items 0 0) c.loop-place.seen.items c.loop-place.reached.items c.args.at c.edges-edges.result.now c.loop-place.place c.loop-place.invariant (omega arith)
