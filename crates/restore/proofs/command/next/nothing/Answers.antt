use Rattle.std.proofs.Common.{length, arith}
use Rattle.restore.proofs.laws.commands.NextLaws.{one_left}
use Rattle.restore.proofs.command.next.nothing.Goals as goal

pub returns-then-place-len : goal.returns-then-place-len
returns-then-place-len c = one_left (length c.args.words.now) c.args.words.now c.args.place (omega arith)
