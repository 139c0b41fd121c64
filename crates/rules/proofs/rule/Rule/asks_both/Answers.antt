use Rattle.std.proofs.Common.{sym, ◌∙◌}
use Rattle.rules.specs.rule.Crossing.{cross}
use Rattle.rules.proofs.laws.rule.CrossLaws.{free_matches}
use Rattle.rules.proofs.rule.Rule.asks_both.Goals as goal

pub returns-clause-alone : goal.returns-clause-alone
unfolding cross
returns-clause-alone c =
    rw (← c.self.view_is) (λ none numbers. free_matches numbers c.self.inside.kept.matches (sym c.self.inside.asked ∙ none))
