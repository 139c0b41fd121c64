use Rattle.std.proofs.Common.{◌∙◌, ap, sym, not}
use Rattle.std.specs.List.{list_all}
use Rattle.rules.specs.rule.Crossing.{cross, match_crosses}
use Rattle.rules.specs.rule.Rules.{Rule}
use Rattle.rules.specs.steps.Views.{view_match}
use Rattle.rules.proofs.laws.rule.CrossLaws.{each_viewed}
use Rattle.rules.proofs.rule.crossing.cross.Goals as goal

pub returns-else-not-asks_both : goal.returns-else-not-asks_both
unfolding cross
returns-else-not-asks_both c =
    c.matches_cross.ensures
    ∙ ap (λ ms. list_all (λ m. match_crosses c.args.packet.now.values (view_match m)) ms) c.as_slice.ensures.value
    ∙ each_viewed c.args.packet.now.values c.spec.result.now.matches.items
    ∙ ap (λ (r : Rule). list_all (match_crosses c.args.packet.now.values) r.matches) c.spec.ensures.value

pub returns-then-not-asks_both : goal.returns-then-not-asks_both
unfolding cross
returns-then-not-asks_both c =
    ap not c.if-not-asks_both.true ∙ sym (c.asks_both.ensures.alone c.if-not-asks_both.true c.args.packet.now.values)
