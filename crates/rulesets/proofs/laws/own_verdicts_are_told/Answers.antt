use Rattle.rulesets.proofs.OwnVerdictLaws.{readings_are_faithful, readings_tell}
use Rattle.rulesets.proofs.laws.own_verdicts_are_told.Goals as goal

pub returns-clause-faithful : goal.returns-clause-faithful
returns-clause-faithful c = readings_are_faithful

pub returns-clause-tell : goal.returns-clause-tell
returns-clause-tell c = readings_tell
