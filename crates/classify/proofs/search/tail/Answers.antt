use Rattle.std.proofs.Common.{arith}
use Rattle.classify.proofs.search.tail.Goals as goal

pub scan-requires-2 : goal.scan-requires-2
scan-requires-2 c = (c.args.words, c.requires.wide, omega arith, c.requires.few, c.requires.summed)
