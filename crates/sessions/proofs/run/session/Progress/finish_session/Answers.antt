use Rattle.sessions.specs.line.Outcome.{last_outcome}
use Rattle.sessions.proofs.laws.run.WholeLaws.{session_ends}
use Rattle.sessions.proofs.run.session.Progress.finish_session.Goals as goal

pub returns-clause-ends : goal.returns-clause-ends
returns-clause-ends g c =
    let t = c.args.table.now.table in
    session_ends g.W.Write.contents t c.args.self c.args.output.now c.end.new.output c.end.result (c.end.ensures.finishes (last_outcome t c.args.self.mode).reply (rw c.replace-mode.ensures.value at c.last_reply.ensures.reply t))

pub end-requires-clause-place : goal.end-requires-clause-place
end-requires-clause-place g c = c.last_reply.ensures.place c.args.table.now.table
