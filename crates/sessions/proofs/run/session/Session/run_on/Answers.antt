use Rattle.fields.specs.text.Tap.{known}
use Rattle.sessions.specs.run.Console.{reader, writer}
use Rattle.sessions.specs.run.Session.{OfSession, session_finish}
use Rattle.sessions.proofs.laws.run.WholeLaws.{ran_to_end, runs_to, on_ok, session_is_read}
use Rattle.sessions.proofs.run.session.Session.run_on.Goals as goal

pub returns-in-Ok-clause-runs : goal.returns-in-Ok-clause-runs
returns-in-Ok-clause-runs g c =
    let executed = rw c.begin-progress.ensures at c.in-Ok.ensures.executes in
    runs_to c.execute_all.ensures.one OfSession _ _ _ c.execute_all.ensures.stands
    (ran_to_end g.W.Write.contents (known g.R.Read.remaining (reader c.execute_all.new.console)) c.execute_all.new.self.table c.execute_all.new.self.work (writer c.execute_all.new.console) c.finish_session.new.output
    executed session_finish c.finish_session.result c.finish_session.ensures.ends)

pub returns-in-Ok-clause-ended : goal.returns-in-Ok-clause-ended
returns-in-Ok-clause-ended g c =
    let executed = rw c.begin-progress.ensures at c.in-Ok.ensures.executes in
    on_ok c.finish_session.result (session_is_read c.args.self.now.table.table executed.lines _ executed.leads executed.done)

pub returns-in-Err-clause-runs : goal.returns-in-Err-clause-runs
returns-in-Err-clause-runs g c =
    let executed = rw c.begin-progress.ensures at c.in-Err.ensures.executes in
    runs_to c.execute_all.ensures.one OfSession _ _ _ c.execute_all.ensures.stands (executed session_finish)
