use Rattle.questions.proofs.laws.ForeignLaws.{left_sound}
use Rattle.questions.proofs.laws.ResolvedLaws.{never_matches, chain_left, resolved_without_needs}
use Rattle.questions.proofs.foreign.laws.conditions_leave_a_table.Goals as goal

pub returns-clause-sound : goal.returns-clause-sound
returns-clause-sound c = left_sound

pub returns-clause-places : goal.returns-clause-places
returns-clause-places c = chain_left

pub returns-clause-never : goal.returns-clause-never
returns-clause-never c = never_matches

pub returns-clause-none : goal.returns-clause-none
returns-clause-none c = resolved_without_needs
