use Rattle.std.proofs.Common.{[], get_or, refl}
use Rattle.std.proofs.lemmas.List.Elements.{Contains-get_or}
use Rattle.questions.proofs.laws.AreaLaws.{apart_of, cut_of, fails_all, in_ports}
use Rattle.questions.proofs.laws.PartLaws.{met_numbers, none_disjoint, one_disjoint}
use Rattle.questions.proofs.boxes.cut.cut_by.Goals as goal

pub returns-then-not-meet-clause-cuts : goal.returns-then-not-meet-clause-cuts
returns-then-not-meet-clause-cuts c =
    apart_of c.args.rule.now c.args.area.now c.args.boxed.now c.requires (λ numbers point. (rw (c.sets.ensures.value, c.spans.ensures.value) at (c.meet.ensures.none c.if-not-meet.true)) numbers)

pub returns-in-Fails-clause-cuts : goal.returns-in-Fails-clause-cuts
returns-in-Fails-clause-cuts c =
    let fails = rw c.in-Fails.is at c.in_ok-cross_ports.ensures.says in
    fails_all c.args.rule.now c.args.area.now c.args.boxed.now c.in_ok-inside.inside c.requires (rw c.spans-2.ensures.value at c.in_ok-inside.ensures)
    (λ numbers point h. fails numbers (in_ports c.in_ok-inside.inside c.on.result.now c.on-2.result.now numbers c.on.ensures.top c.on.ensures.set c.on-2.ensures.top c.on-2.ensures.set point h))

pub returns-in_ok-others-in-Holds-clause-cuts : goal.returns-in_ok-others-in-Holds-clause-cuts
returns-in_ok-others-in-Holds-clause-cuts c =
    let holds = rw c.in-Holds.is at c.in_ok-cross_ports.ensures.says in
    cut_of c.args.rule.now c.args.area.now c.args.boxed.now c.in_ok-inside.inside c.requires (rw c.spans-2.ensures.value at c.in_ok-inside.ensures) c.in_ok-others-in-Holds.others.items
    (rw (c.sets-in-Holds.ensures.value, c.spans-in-Holds.ensures.value) at c.in_ok-others-in-Holds.ensures.all) (rw (c.sets-in-Holds.ensures.value, c.spans-in-Holds.ensures.value) at c.in_ok-others-in-Holds.ensures.only)
    (λ numbers point h. holds numbers (in_ports c.in_ok-inside.inside c.on.result.now c.on-2.result.now numbers c.on.ensures.top c.on.ensures.set c.on-2.ensures.top c.on-2.ensures.set point h))

pub outside-requires-clause-met : goal.outside-requires-clause-met
outside-requires-clause-met c = rw (c.sets-in-Holds.ensures.value, c.spans-in-Holds.ensures.value) (rw (c.sets.ensures.value, c.spans.ensures.value) at (c.meet.ensures.some c.if-not-meet.false))

pub cut_apart-requires-clause-met : goal.cut_apart-requires-clause-met
cut_apart-requires-clause-met c = rw (c.sets.ensures.value, c.spans.ensures.value) at (c.meet.ensures.some c.if-not-meet.false)

pub cut_apart-requires-in-ByDestination-clause-met : goal.cut_apart-requires-in-ByDestination-clause-met
cut_apart-requires-in-ByDestination-clause-met c = rw (c.sets.ensures.value, c.spans.ensures.value) at (c.meet.ensures.some c.if-not-meet.false)

pub returns-in-BySource-clause-ports : goal.returns-in-BySource-clause-ports
returns-in-BySource-clause-ports c = c.cut_apart.ensures.ports c.args.rule.now (rw c.in-BySource.is at c.in_ok-cross_ports.ensures.listed)

pub returns-in-ByDestination-clause-ports : goal.returns-in-ByDestination-clause-ports
returns-in-ByDestination-clause-ports c = c.cut_apart-in-ByDestination.ensures.ports c.args.rule.now (rw c.in-ByDestination.is at c.in_ok-cross_ports.ensures.listed)

pub cut_apart-requires-clause-some : goal.cut_apart-requires-clause-some
cut_apart-requires-clause-some c =
    met_numbers c.args.area.now c.args.boxed.now c.in_ok-inside.inside (rw (c.sets.ensures.value, c.spans.ensures.value) at (c.meet.ensures.some c.if-not-meet.false)) (rw c.spans-2.ensures.value at c.in_ok-inside.ensures)

pub cut_apart-requires-in-ByDestination-clause-some : goal.cut_apart-requires-in-ByDestination-clause-some
cut_apart-requires-in-ByDestination-clause-some c =
    met_numbers c.args.area.now c.args.boxed.now c.in_ok-inside.inside (rw (c.sets.ensures.value, c.spans.ensures.value) at (c.meet.ensures.some c.if-not-meet.false)) (rw c.spans-2.ensures.value at c.in_ok-inside.ensures)

pub returns-then-not-meet-clause-disjoint : goal.returns-then-not-meet-clause-disjoint
returns-then-not-meet-clause-disjoint c = none_disjoint [] refl

pub returns-in-Fails-clause-disjoint : goal.returns-in-Fails-clause-disjoint
returns-in-Fails-clause-disjoint c = none_disjoint [] refl

pub returns-in_ok-others-in-Holds-clause-disjoint : goal.returns-in_ok-others-in-Holds-clause-disjoint
returns-in_ok-others-in-Holds-clause-disjoint c =
    let inside = c.in_ok-inside.inside in
    let others = c.in_ok-others-in-Holds.others.items in
    let both = rw c.spans-2.ensures.value at c.in_ok-inside.ensures in
    let only = rw (c.sets-in-Holds.ensures.value, c.spans-in-Holds.ensures.value) at c.in_ok-others-in-Holds.ensures.only in
    one_disjoint others inside (met_numbers c.args.area.now c.args.boxed.now inside (rw (c.sets.ensures.value, c.spans.ensures.value) at (c.meet.ensures.some c.if-not-meet.false)) both)
    (λ k d lt numbers point here there. (only numbers point (get_or others k d, Contains-get_or others k d lt, there)).1 (both.second numbers point here)) c.in_ok-others-in-Holds.ensures.disjoint
