use Rattle.questions.proofs.asked.missing.is_off.Given as goal

abbrev pub invariant-loop-hold : goal.invariant-loop-hold
invariant-loop-hold l = Unit {0}
