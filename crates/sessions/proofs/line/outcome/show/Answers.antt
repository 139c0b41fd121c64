use Rattle.table.specs.chains.Table.{rules_of}
use Rattle.sessions.specs.Replies.{lines_reply}
use Rattle.sessions.proofs.laws.line.OutcomeLaws.{lines_comes, on_none}
use Rattle.sessions.proofs.line.outcome.show.Goals as goal

pub returns-in-Some : goal.returns-in-Some
returns-in-Some c =
    lines_comes c.args.table.now c.args.name.now c.in-Some.place c.answers.result c.in-Some.ensures c.answers.ensures.mode c.answers.ensures.reply

pub returns-in-None : goal.returns-in-None
returns-in-None c =
    on_none c.args.table.now c.args.name.now (lines_reply (rules_of c.args.table.now.table.chains c.args.name.now)) c.no_such_chain.result c.in-None.ensures c.no_such_chain.ensures.mode c.no_such_chain.ensures.reply
