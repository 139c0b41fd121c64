use Rattle.std.proofs.Common.{ap, ◌∙◌, arith}
use Rattle.std.proofs.lemmas.List.{length-map}
use Rattle.rules.specs.steps.Views.{view_match, view_matches}
use Rattle.rules.proofs.laws.reading.StepLaws.{normal_first, all_normal, normal_next}
use Rattle.rules.proofs.reading.normal_form.normalize_matches.Goals as goal

pub loop-one-preserved : goal.loop-one-preserved
loop-one-preserved c =
    normal_next c.loop-one.matches c.args.matches.now c.loop-one.one-index c.one-item.result c.normalize_match.new.one (omega arith) (omega arith) c.loop-one.invariant c.in_ok-normalize_match.ensures

pub returns : goal.returns
returns c =
    let V = view_matches c.args.matches.now in
    c.loop-one.invariant ∙ ap (λ n. normal_first n V) (omega (arith, length-map c.args.matches.now view_match)) ∙ all_normal V
