use Rattle.std.proofs.Common.{arith}
use Rattle.questions.proofs.laws.AreaLaws.{parted_of}
use Rattle.questions.proofs.laws.PartLaws.{both_disjoint, inside_outside, port_parts}
use Rattle.questions.proofs.boxes.cut.cut_apart.Goals as goal

pub outside-requires-clause-met : goal.outside-requires-clause-met
outside-requires-clause-met c = rw (c.sets.ensures.value, c.spans.ensures.value) c.requires.met

pub returns-clause-cuts : goal.returns-clause-cuts
returns-clause-cuts c = λ rule is.
    parted_of rule c.args.area.now c.args.boxed.now c.args.inside is c.requires.inside c.in_ok-others.others.items (rw (c.sets.ensures.value, c.spans.ensures.value) at c.in_ok-others.ensures.all)
    (rw (c.sets.ensures.value, c.spans.ensures.value) at c.in_ok-others.ensures.only) c.in_ok-parts.parts.items c.in_ok-parts.ensures.all c.in_ok-parts.ensures.only

pub returns-clause-ports : goal.returns-clause-ports
returns-clause-ports c = λ rule asked.
    port_parts rule c.args.field c.args.listed.now c.args.area.now c.args.inside c.in_ok-parts.parts.items asked c.requires.inside.first c.in_ok-parts.ensures.sides

pub returns-clause-disjoint : goal.returns-clause-disjoint
returns-clause-disjoint c =
    let only = rw (c.sets.ensures.value, c.spans.ensures.value) at c.in_ok-others.ensures.only in
    both_disjoint c.in_ok-parts.parts.items c.in_ok-others.others.items c.in_ok-parts.ensures.disjoint c.in_ok-others.ensures.disjoint
    (inside_outside c.args.boxed.now c.in_ok-parts.parts.items c.in_ok-others.others.items (λ numbers point some. c.requires.inside.second numbers point (c.in_ok-parts.ensures.only numbers point some))
    (λ numbers point some. (only numbers point some).1))

pub returns-clause-few : goal.returns-clause-few
returns-clause-few c = (omega (arith, c.in_ok-parts.ensures.two), c.in_ok-others.ensures.few)
