use Rattle.questions.proofs.laws.DeleteLaws.{deletions_leave, dead_can_go_renumbered, dead_can_go_under}
use Rattle.questions.proofs.laws.WithoutLaws.{dead_can_go}
use Rattle.questions.proofs.asked.laws.dead_rules_can_go.Goals as goal

pub returns-clause-verdicts : goal.returns-clause-verdicts
returns-clause-verdicts c = dead_can_go

pub returns-clause-needs : goal.returns-clause-needs
returns-clause-needs c = dead_can_go_under

pub returns-clause-renumbered : goal.returns-clause-renumbered
returns-clause-renumbered c = dead_can_go_renumbered

pub returns-clause-commands : goal.returns-clause-commands
returns-clause-commands c = deletions_leave
