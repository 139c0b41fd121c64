use Rattle.std.proofs.Common.{length, drop, subst, sym}
use Rattle.restore.specs.commands.Command.{IsRead}
use Rattle.restore.specs.steps.Reading.{row_of}
use Rattle.restore.specs.declared.command.name.CommandName.{CommandName}
use Rattle.restore.proofs.command.name.CommandName.parse_args.Goals as goal

pub returns-in-Delete : goal.returns-in-Delete
returns-in-Delete c =
    let end = length c.args.words.now in
    let rest = drop c.args.place c.args.words.now in
    subst (λ (h : CommandName). IsRead c.delete.result ((row_of h).follows end rest)) (sym c.in-Delete.is) c.delete.ensures
