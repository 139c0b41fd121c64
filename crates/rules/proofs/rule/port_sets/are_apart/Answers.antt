use Rattle.rules.proofs.laws.rule.CrossLaws.{first_number, shared_number}
use Rattle.rules.proofs.rule.port_sets.are_apart.Goals as goal

pub returns-clause-some : goal.returns-clause-some
returns-clause-some c = λ f.
    shared_number c.args.own.now c.args.other.now c.in_ok-shared.shared c.in_ok-shared.ensures.top c.in_ok-shared.ensures.members
    (first_number c.in_ok-shared.shared c.is_empty.result c.intervals.ensures.canonical (rw c.intervals.ensures.value at c.is_empty.ensures) f)
