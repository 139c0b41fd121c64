use Rattle.questions.proofs.laws.ChoiceLaws.{none_of_kinds}
use Rattle.questions.proofs.sampling.choice.numbers_in.Goals as goal

pub returns-in-None : goal.returns-in-None
returns-in-None c = none_of_kinds c.args.area.now c.args.hook c.in-None.ensures
