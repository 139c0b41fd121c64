use Rattle.std.proofs.Common.{◌-◌}
use Rattle.questions.specs.steps.Seeking.{AddsParts, NoneAheadTakesOut}
use Rattle.questions.proofs.seeking.straying.add_taken_ahead.Given as goal

abbrev pub invariant-loop-number : goal.invariant-loop-number
invariant-loop-number l = AddsParts l.scope (NoneAheadTakesOut l.subject l.fn.by (l.number - 1)) l.initial.scopes.items l.scopes.items
