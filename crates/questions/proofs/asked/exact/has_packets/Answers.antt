use Rattle.questions.proofs.laws.DifferLaws.{none_there, some_there}
use Rattle.questions.proofs.asked.exact.has_packets.Goals as goal

pub returns-clause-some : goal.returns-clause-some
returns-clause-some c = λ is.
    let (there, met, are) = c.in_ok-possible.ensures in
    some_there c.args.hook c.args.area.now there met c.in_ok-possible.possible.items are (rw c.as_slice.ensures.value at (c.has_some.ensures.some is))

pub returns-clause-none : goal.returns-clause-none
returns-clause-none c = λ is.
    let (there, met, are) = c.in_ok-possible.ensures in
    none_there c.args.hook c.args.area.now there met c.in_ok-possible.possible.items are (rw c.as_slice.ensures.value at (c.has_some.ensures.none is))
