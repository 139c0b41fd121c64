use Rattle.std.proofs.Common.{◌∙◌, ap, subst, ℕ, List}
use Rattle.std.specs.List.{Any, list_all}
use Rattle.std.specs.Option.{IfSome}
use Rattle.std.proofs.lemmas.Result.{IfOk-weaker}
use Rattle.rules.specs.declared.rule.port_sets.Crossing.{Crossing}
use Rattle.rules.specs.declared.rule.spec.Match.{Match}
use Rattle.rules.specs.rule.Crossing.{IsListedIn, cross, match_crosses, parted_by}
use Rattle.rules.specs.rule.Rules as viewed
use Rattle.rules.specs.rule.Rules.{Rule}
use Rattle.rules.specs.steps.Views.{view_match}
use Rattle.rules.proofs.laws.rule.CrossLaws.{each_viewed, any_made, says_alike}
use Rattle.rules.proofs.rule.port_sets.cross_ports.Goals as goal

pub returns-clause-says : goal.returns-clause-says
unfolding cross
returns-clause-says c =
    IfOk-weaker c.matches_say.result _ _ (λ said h. says_alike (λ (numbers : List ℕ). list_all (λ m. match_crosses numbers (view_match m)) c.as_slice.result.now) (λ numbers. cross numbers c.args.rule.now) c.args.source.now c.args.destination.now said
    (λ numbers.
    ap (λ ms. list_all (λ m. match_crosses numbers (view_match m)) ms) c.as_slice.ensures.value
    ∙ each_viewed numbers c.spec.result.now.matches.items
    ∙ ap (λ (r : Rule). list_all (match_crosses numbers) r.matches) c.spec.ensures.value) h) c.matches_say.ensures.says

pub returns-clause-listed : goal.returns-clause-listed
returns-clause-listed c =
    let each : List Match → Crossing → Type 0 = λ ms said. IfSome (parted_by said) (λ set. Any (λ m. IsListedIn set (view_match m)) ms) in
    IfOk-weaker c.matches_say.result _ _
    (λ said h.
    subst (λ (ms : List viewed.Match). IfSome (parted_by said) (λ set. Any (IsListedIn set) ms)) (ap (λ (r : Rule). r.matches) c.spec.ensures.value)
    (any_made IsListedIn view_match c.spec.result.now.matches.items (parted_by said) (subst (λ (ms : List Match). each ms said) c.as_slice.ensures.value h)))
    c.matches_say.ensures.listed
