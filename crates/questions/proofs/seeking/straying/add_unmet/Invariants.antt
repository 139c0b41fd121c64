use Rattle.questions.specs.steps.Seeking.{AddsParts}
use Rattle.questions.proofs.laws.SeekLaws.{HoldBelow}
use Rattle.questions.proofs.seeking.straying.add_unmet.Given as goal

abbrev pub invariant-loop-need : goal.invariant-loop-need
invariant-loop-need l = AddsParts l.scope (HoldBelow l.needs l.need-index) l.initial.scopes.items l.scopes.items
