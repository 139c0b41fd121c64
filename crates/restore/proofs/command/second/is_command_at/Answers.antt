use Rattle.std.proofs.Common.{◌∙◌, ap, drop, Err, Ok}
use Rattle.restore.specs.commands.Command.{NoCommand}
use Rattle.restore.specs.commands.CommandForms.{is_command}
use Rattle.restore.proofs.laws.commands.NextLaws.{names_command, word_seen}
use Rattle.restore.proofs.command.second.is_command_at.Goals as goal

pub returns-in-Ok : goal.returns-in-Ok
returns-in-Ok c =
    let ws = c.args.words.now in
    let seen = word_seen NoCommand ws c.args.from c.args.place c.max.result (Ok (c.in-Ok.word.now, drop c.in-Ok.field-0-1 ws)) in
    c.is_some.ensures
    ∙ names_command c.in-Ok.word.now c.named.result c.named.ensures
    ∙ ap is_command (seen c.max.ensures c.in-Ok.ensures)

pub returns-in-Err : goal.returns-in-Err
returns-in-Err c =
    let seen = word_seen NoCommand c.args.words.now c.args.from c.args.place c.max.result (Err c.in-Err.field-0) in
    ap is_command (seen c.max.ensures c.in-Err.ensures)
