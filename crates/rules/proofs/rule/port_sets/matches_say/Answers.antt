use Rattle.rules.specs.rule.Crossing.{IsListedIn, parted_by}
use Rattle.rules.specs.steps.Views.{view_match}
use Rattle.rules.proofs.laws.rule.CrossLaws.{any_there}
use Rattle.rules.proofs.rule.port_sets.matches_say.Goals as goal

pub returns-then-not-holds-clause-listed : goal.returns-then-not-holds-clause-listed
returns-then-not-holds-clause-listed c =
    any_there (λ set m. IsListedIn set (view_match m)) c.args.matches.now c.loop-one.one-index c.one-item.result (parted_by c.in_ok-said.said) c.loop-one-test.true
    c.one-item.is c.in_ok-said.ensures.listed
