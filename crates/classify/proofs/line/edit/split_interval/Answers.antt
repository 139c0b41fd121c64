use Rattle.std.proofs.Common.{arith}
use Rattle.classify.proofs.line.edit.split_interval.Goals as goal

pub returns-then-interval-top-clause-split : goal.returns-then-interval-top-clause-split
returns-then-interval-top-clause-split c spans a b = c.split_at.ensures.split c.args.top spans c.requires.begins a c.requires.rising

pub returns-clause-split : goal.returns-clause-split
returns-clause-split c spans a b = c.split_pair.ensures.split c.args.top spans c.requires.begins (omega arith) a b c.requires.rising
