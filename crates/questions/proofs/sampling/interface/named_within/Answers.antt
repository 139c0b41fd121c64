use Rattle.std.proofs.Common.{arith}
use Rattle.questions.proofs.laws.ChoiceLaws.{none_over, none_within}
use Rattle.questions.proofs.sampling.interface.named_within.Goals as goal

pub returns-in_default : goal.returns-in_default
returns-in_default c = none_within c.args.span.now c.max.result c.max.ensures c.in_default.ensures

pub returns : goal.returns
returns c = none_over c.args.span.now c.max.result c.max.ensures c.in-Some.number c.in-Some.ensures (omega arith)
