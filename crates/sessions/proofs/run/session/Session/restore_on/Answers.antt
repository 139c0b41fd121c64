use Rattle.fields.specs.text.Tap.{known}
use Rattle.sessions.specs.run.Console.{reader, writer}
use Rattle.sessions.specs.run.Session.{OfRestore, restore_finish}
use Rattle.sessions.proofs.laws.run.WholeLaws.{ran_to_end, runs_to}
use Rattle.sessions.proofs.run.session.Session.restore_on.Goals as goal

pub returns-in-Ok-clause-runs : goal.returns-in-Ok-clause-runs
returns-in-Ok-clause-runs g c =
    let executed = rw (c.begin-progress.ensures, c.new-restore.ensures) at c.in-Ok.ensures.executes in
    runs_to c.execute_all.ensures.one (OfRestore c.args.noflush c.args.test c.args.list) _ _ _ c.execute_all.ensures.stands
    (ran_to_end g.W.Write.contents (known g.R.Read.remaining (reader c.execute_all.new.console)) c.execute_all.new.self.table c.execute_all.new.self.work (writer c.execute_all.new.console) c.finish_restore.new.output
    executed (restore_finish c.args.list) c.finish_restore.result c.finish_restore.ensures.ends)

pub returns-in-Err-clause-runs : goal.returns-in-Err-clause-runs
returns-in-Err-clause-runs g c =
    let executed = rw (c.begin-progress.ensures, c.new-restore.ensures) at c.in-Err.ensures.executes in
    runs_to c.execute_all.ensures.one (OfRestore c.args.noflush c.args.test c.args.list) _ _ _ c.execute_all.ensures.stands (executed (restore_finish c.args.list))
