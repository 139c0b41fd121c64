use Rattle.restore.specs.Listing.{rules_listing}
use Rattle.std.proofs.Common.{Some}
use Rattle.sessions.proofs.laws.line.OutcomeLaws.{on_none, rules_comes}
use Rattle.sessions.proofs.line.outcome.list_rules.Goals as goal

pub returns-in-Some-index_of : goal.returns-in-Some-index_of
returns-in-Some-index_of c =
    rw c.in-Some.is (rules_comes c.args.table.now c.in-Some.name.now c.in-Some-index_of.place c.answers-in-Some-index_of.result c.in-Some-index_of.ensures c.answers-in-Some-index_of.ensures.mode c.answers-in-Some-index_of.ensures.reply)

pub returns-in-None : goal.returns-in-None
returns-in-None c =
    rw c.in-Some.is (on_none c.args.table.now c.in-Some.name.now (rules_listing c.args.table.now.table (Some c.in-Some.name.now)) c.no_such_chain.result c.in-None.ensures c.no_such_chain.ensures.mode c.no_such_chain.ensures.reply)
