use Rattle.std.proofs.Common.{◌≡◌, subst, ◌∙◌, false, Some, MatchOption}
use Rattle.dumps.specs.Numbers.{has, identity_at, Numbers}
use Rattle.dumps.specs.Views.{identity_in, all_in}
use Rattle.dumps.proofs.laws.NumberLaws.{index_found}
use Rattle.dumps.proofs.conditions.Conditions.find.Goals as goal

pub returns : goal.returns
returns c =
    subst (λ (v : Numbers). MatchOption c.copied.result (has v.all (identity_in c.args.key.now) ≡ false) (λ n. identity_at v.all n ≡ Some (identity_in c.args.key.now))) c.self.view_is
    (index_found c.self.inside.numbers (all_in c.self.inside.kept.items) c.args.key.now c.copied.result c.self.invariant (c.copied.ensures ∙ c.get.ensures.value))
