use Rattle.std.proofs.Common.{rules}
use Rattle.sessions.proofs.laws.line.OutcomeLaws.{edit_comes, refused_comes}
use Rattle.restore.specs.commands.Command.{meaning}
use Rattle.sessions.proofs.laws.line.BoxLaws.{on_answer, on_fault}
use Rattle.sessions.proofs.line.outcome.edit.Goals as goal

pub returns-in-Ok-clause-comes : goal.returns-in-Ok-clause-comes
returns-in-Ok-clause-comes c =
    edit_comes (meaning c.args.command) c.args.table.now c.apply.new.table _ c.answers.result c.requires c.in-Ok.ensures.step c.answers.ensures.mode c.answers.ensures.reply

pub returns-in-Err-clause-comes : goal.returns-in-Err-clause-comes
returns-in-Err-clause-comes c =
    refused_comes (meaning c.args.command) c.args.table.now c.apply.new.table c.in-Err.fault c.fails.result c.requires c.in-Err.ensures.step c.fails.ensures.mode (search rules)

pub returns-in-Ok-clause-boxed : goal.returns-in-Ok-clause-boxed
returns-in-Ok-clause-boxed c asks = on_answer _ c.answers.result.reply (c.in-Ok.ensures.boxed asks)

pub returns-in-Err-clause-boxed : goal.returns-in-Err-clause-boxed
returns-in-Err-clause-boxed c asks = on_fault _ c.fails.result.reply _ c.fails.ensures.reply
