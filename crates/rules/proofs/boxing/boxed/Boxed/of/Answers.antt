use Rattle.std.proofs.Common.{◌≡◌, length, ap, ◌∙◌, rules}
use Rattle.fields.specs.declared.numbers.field.TheConstants.{FIELDS}
use Rattle.rules.specs.steps.Views.{view_spec, view_matches}
use Rattle.rules.proofs.laws.BoxLaws.{box_of_whole, sets_of_whole, box_of_rule}
use Rattle.rules.proofs.boxing.boxed.Boxed.of.Goals as goal

pub narrow_all-requires : goal.narrow_all-requires
narrow_all-requires c =
    let long : length c.open.new.spans ≡ FIELDS = c.open.auto.spans ∙ search rules in
    box_of_whole c.open.new.spans long (λ k s lt. c.in_ok-open.ensures k s lt)

pub returns-clause-boxed : goal.returns-clause-boxed
returns-clause-boxed c =
    let long : length c.open.new.spans ≡ FIELDS = c.open.auto.spans ∙ search rules in
    let sets = sets_of_whole c.open.new.spans long (λ k s lt. c.in_ok-open.ensures k s lt) in
    box_of_rule (view_spec c.spec-spec.result.now) c.args.rule.now c.as_slice.result.now c.open.new.spans c.narrow_all.new.spans c.narrow_matches.new.spans c.spec-spec.ensures.value
    c.as_slice.ensures.value sets c.in_ok-narrow_all.ensures.narrows (view_matches c.as_slice-2.result.now) (ap view_matches c.as_slice-2.ensures.value) c.in_ok-narrow_matches.ensures.narrows
