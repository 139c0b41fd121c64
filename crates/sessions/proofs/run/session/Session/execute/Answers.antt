use Rattle.std.proofs.Common.{rules}
use Rattle.sessions.proofs.laws.run.ReachedLaws.{executed, index_of}
use Rattle.sessions.proofs.run.session.Session.execute.Goals as goal

pub report-requires : goal.report-requires
report-requires g c =
    index_of c.as_slice.result.now c.args.too_long c.replace-mode.result c.args.self.now.table c.take_line-mode.new.table c.take_line-mode.result c.take_line-mode.ensures.outcome

pub returns-clause-executes : goal.returns-clause-executes
returns-clause-executes g c text held =
    executed g.W.Write.contents text c.replace-mode.result c.args.self.now.table c.take_line-mode.new.table c.args.progress.now c.report.new.self c.take_line-mode.result
    c.args.self.now.work c.take_line-mode.new.work c.args.output.now c.report.new.output c.report.result
    c.replace-mode.ensures.value (c.take_line-mode.ensures.outcome text (search rules)) (c.take_line-mode.ensures.boxed text (search rules)) (search rules) (search rules)
    c.report.ensures.status c.report.ensures.puts
