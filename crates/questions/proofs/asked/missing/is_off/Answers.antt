use Rattle.questions.proofs.asked.missing.is_off.Goals as goal

pub returns-then-branch : goal.returns-then-branch
returns-then-branch c = λ _. (rw c.in_ok-answers.ensures at c.in_ok-is_missed_from.ensures) c.if-branch.true
