use Rattle.std.proofs.Common.{sym, ◌∙◌}
use Rattle.questions.proofs.laws.ChoiceLaws.{missing}
use Rattle.questions.proofs.sampling.interface.other_in.Goals as goal

pub returns-in-None : goal.returns-in-None
returns-in-None c = record { is = missing; there = sym c.has.ensures ∙ c.if-has.true }
