use Rattle.questions.proofs.asked.claims.walked.Goals as goal

pub returns-in-None : goal.returns-in-None
returns-in-None c = (c.in_ok-hook.field-0, c.in_ok-hook.ensures, rw (c.in-None.is, c.none.ensures) at c.in_ok-exact_walks.ensures)

pub returns-in-Some : goal.returns-in-Some
returns-in-Some c = (c.in_ok-hook.field-0, c.in_ok-hook.ensures, rw (c.in-Some.is, c.none.ensures) at c.in_ok-exact_walks.ensures)
