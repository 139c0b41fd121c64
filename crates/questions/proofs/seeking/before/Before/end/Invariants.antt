use Rattle.questions.proofs.seeking.before.Before.end.Given as goal

abbrev pub decreases-loop-open : goal.decreases-loop-open
decreases-loop-open l = goal.left-loop-open l
