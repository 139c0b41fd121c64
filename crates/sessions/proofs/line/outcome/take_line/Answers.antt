use Rattle.sessions.proofs.line.outcome.take_line.Goals as goal

pub returns-in-AfterFault-clause-outcome : goal.returns-in-AfterFault-clause-outcome
returns-in-AfterFault-clause-outcome c text held = rw c.in-AfterFault.is (c.passing.ensures text held c.args.table.now)
