use Rattle.table.proofs.laws.edits.AnswerLaws.{never_memory, calls_leave, refused_changes_nothing, one_list}
use Rattle.table.proofs.headline.calls_leave_what_they_accept.Goals as goal

pub returns : goal.returns
returns c = record { chains = calls_leave; refused = refused_changes_nothing; memory = never_memory; classifiers = one_list c.rules_have_one_classifier.ensures }
