use Rattle.restore.proofs.laws.sections.HeadlineLaws.{lines_leave, refused_unchanged, restored_classifiers}
use Rattle.restore.proofs.headline.restores_leave_what_they_accept.Goals as goal

pub returns-clause-lines : goal.returns-clause-lines
returns-clause-lines c = lines_leave

pub returns-clause-refused : goal.returns-clause-refused
returns-clause-refused c = refused_unchanged

pub returns-clause-classifiers : goal.returns-clause-classifiers
returns-clause-classifiers c = restored_classifiers c.listings_restore.ensures.restores c.calls_leave_what_they_accept.ensures.classifiers
