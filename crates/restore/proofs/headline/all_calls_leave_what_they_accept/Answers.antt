use Rattle.restore.proofs.laws.CallLaws.{calls_leave, refused_calls}
use Rattle.restore.proofs.headline.all_calls_leave_what_they_accept.Goals as goal

pub returns-clause-leave : goal.returns-clause-leave
returns-clause-leave c =
    calls_leave c.calls_leave_what_they_accept.ensures.chains c.calls_leave_what_they_accept.ensures.refused c.listings_restore.ensures.restores c.restores_leave_what_they_accept.ensures.classifiers
    c.calls_leave_what_they_accept.ensures.classifiers c.walks_go_by_their_cases.ensures.is c.walks_go_by_their_cases.ensures.one

pub returns-clause-refused : goal.returns-clause-refused
returns-clause-refused c = refused_calls c.calls_leave_what_they_accept.ensures.chains c.calls_leave_what_they_accept.ensures.refused
