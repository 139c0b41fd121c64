use Rattle.std.proofs.Common.{Bool, List, ap, sym, ◌∙◌}
use Rattle.std.specs.List.{list_any}
use Rattle.rules.specs.rule.Crossing.{has_both}
use Rattle.rules.specs.rule.Rules.{Rule}
use Rattle.rules.specs.steps.Views.{view_match}
use Rattle.rules.specs.declared.rule.spec.Match.{Match}
use Rattle.rules.proofs.laws.rule.CrossLaws.{any_viewed}
use Rattle.rules.proofs.rule.Rule.of.Goals as goal

pub invariant_of-result : goal.invariant_of-result
invariant_of-result c =
    let of : List Match → Bool = λ ms. list_any (λ (m : Match). has_both (view_match m)) ms in
    (c.ask_both-asks_both.ensures ∙ ap of c.as_slice.ensures.value ∙ any_viewed c.args.spec.matches.items ∙ ap (λ (r : Rule). list_any has_both r.matches) (sym c.in_ok-kept.ensures), tt)
