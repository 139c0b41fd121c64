use Rattle.restore.proofs.laws.commands.NextLaws.{one_next}
use Rattle.restore.proofs.command.next.next_word.Goals as goal

pub returns : goal.returns
returns c = one_next c.args.fault c.args.words.now c.args.place c.get.result.now c.get.ensures.value
