use Rattle.restore.specs.commands.CommandForms.{command_of}
use Rattle.restore.proofs.command.Command.read.Goals as goal

pub returns : goal.returns
unfolding command_of
returns c = c.read_among.ensures
