use Rattle.std.proofs.Common.{length, drop}
use Rattle.restore.proofs.laws.commands.LineLaws.{edit_is, along}
use Rattle.restore.proofs.command.Command.read_edit.Goals as goal

pub returns : goal.returns
returns c =
    along c.read_among.result _ _ (edit_is (length c.args.words.now) (drop c.args.from c.args.words.now)) c.read_among.ensures
