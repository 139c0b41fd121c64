use Rattle.questions.proofs.laws.AreaLaws.{first_number}
use Rattle.questions.proofs.boxes.area.is_bare.Goals as goal

pub returns-clause-some : goal.returns-clause-some
returns-clause-some c = λ f. first_number c.args.set.now c.is_empty.result c.intervals.ensures.canonical (rw c.intervals.ensures.value at c.is_empty.ensures) f
