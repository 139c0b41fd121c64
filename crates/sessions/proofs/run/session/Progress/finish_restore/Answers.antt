use Rattle.sessions.specs.line.Outcome.{restore_end}
use Rattle.sessions.proofs.laws.run.WholeLaws.{restore_ends}
use Rattle.sessions.proofs.run.session.Progress.finish_restore.Goals as goal

pub returns-clause-ends : goal.returns-clause-ends
returns-clause-ends g c =
    let t = c.args.table.now.table in
    restore_ends g.W.Write.contents t c.args.self c.args.output.now c.end.new.output c.end.result c.args.list
    (c.end.ensures.finishes (restore_end c.args.list t c.args.self.mode).reply (rw c.replace-mode.ensures.value at c.restore_reply.ensures.reply t))

pub end-requires-clause-place : goal.end-requires-clause-place
end-requires-clause-place g c = c.restore_reply.ensures.place c.args.table.now.table
