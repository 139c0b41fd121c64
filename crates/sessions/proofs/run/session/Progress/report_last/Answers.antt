use Rattle.std.proofs.Common.{rules}
use Rattle.fields.specs.text.Tap.{Wrote}
use Rattle.sessions.specs.line.Outcome.{reply_text}
use Rattle.sessions.proofs.laws.run.ReachedLaws.{puts_on}
use Rattle.sessions.proofs.run.session.Progress.report_last.Goals as goal

pub returns-clause-puts : goal.returns-clause-puts
returns-clause-puts g c said is =
    let text = reply_text c.args.self.now.number said in
    let wrote : Wrote g.W.Write.contents c.args.output.now c.report.new.output text = search (rules, c.in_ok-report.ensures.puts said is) in
    puts_on g.W.Write.contents c.args.output.now c.report.new.output c.hand_on.new.output c.hand_on.result text wrote (c.hand_on.ensures.puts wrote.fresh)
