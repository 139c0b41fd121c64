use Rattle.questions.proofs.asked.takers.add_by.Goals as goal

pub returns-clause-known : goal.returns-clause-known
returns-clause-known c = λ _. (c.in-Some.found.items, rw c.in-Some.is at c.in_ok-found.ensures, rw c.as_slice.ensures.value at c.in_ok-add_all.ensures)

pub returns-in_default-clause-unknown : goal.returns-in_default-clause-unknown
returns-in_default-clause-unknown c = λ _. rw c.in_default.is at c.in_ok-found.ensures
