use Rattle.std.proofs.Common.{sym, ◌∙◌}
use Rattle.questions.proofs.laws.ChoiceLaws.{member_fits}
use Rattle.questions.proofs.sampling.choice.pick.Goals as goal

pub returns-then-has-clause-within : goal.returns-then-has-clause-within
returns-then-has-clause-within c =
    member_fits c.args.set.now.top 0 c.args.set.now.intervals c.args.wanted c.intervals-spans.ensures.canonical (sym c.has.ensures ∙ c.if-has.true)
