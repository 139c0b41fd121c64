use Rattle.std.proofs.Common.{◌-◌}
use Rattle.questions.specs.Scopes.{whole_of}
use Rattle.questions.specs.steps.Shared.{NoneAhead}
use Rattle.questions.proofs.asked.pairs.next_of.Given as goal

abbrev pub invariant-loop-ahead : goal.invariant-loop-ahead
invariant-loop-ahead l = NoneAhead (whole_of l.old) (whole_of l.new) l.fn.chains l.fn.passed (l.ahead - 1)
