use Rattle.std.proofs.Common.{refl, ap}
use Rattle.fields.proofs.laws.text.PutLaws.{puts-after, stops-in}
use Rattle.rules.proofs.laws.printing.PrintLaws.{rule_text-parts}
use Rattle.rules.specs.steps.Views.{view_spec, view_matches}
use Rattle.rules.proofs.printing.put_spec.Goals as goal

pub returns-in_err-put_option_values : goal.returns-in_err-put_option_values
returns-in_err-put_option_values g c =
    let d = view_spec c.args.spec.now in
    stops-in _ _ _ _ _ _ _ (rule_text-parts d _ _ _ c.as_slice.ensures.value refl refl) c.from_residual.ensures.0 c.in_err-put_option_values.ensures

pub returns-in_err-put_matches : goal.returns-in_err-put_matches
returns-in_err-put_matches g c =
    let d = view_spec c.args.spec.now in
    puts-after _ _ _ _ _ _ _ _ (rule_text-parts d _ _ _ c.as_slice.ensures.value (ap view_matches c.as_slice-2.ensures.value) refl) c.in_ok-put_option_values.ensures
    (stops-in _ _ _ _ _ _ _ refl c.from_residual-in_err-put_matches.ensures.0 c.in_err-put_matches.ensures)

pub returns-in_err-put_action : goal.returns-in_err-put_action
returns-in_err-put_action g c =
    let d = view_spec c.args.spec.now in
    puts-after _ _ _ _ _ _ _ _ (rule_text-parts d _ _ _ c.as_slice.ensures.value (ap view_matches c.as_slice-2.ensures.value) refl) c.in_ok-put_option_values.ensures
    (puts-after _ _ _ _ _ _ _ _ refl c.in_ok-put_matches.ensures
    (stops-in _ _ _ _ _ _ _ refl c.from_residual-in_err-put_action.ensures.0 c.in_err-put_action.ensures))

pub returns : goal.returns
returns g c =
    let d = view_spec c.args.spec.now in
    puts-after _ _ _ _ _ _ _ _ (rule_text-parts d _ _ _ c.as_slice.ensures.value (ap view_matches c.as_slice-2.ensures.value) c.as_slice-3.ensures.value) c.in_ok-put_option_values.ensures
    (puts-after _ _ _ _ _ _ _ _ refl c.in_ok-put_matches.ensures (puts-after _ _ _ _ _ _ _ _ refl c.in_ok-put_action.ensures c.put_option_values-2.ensures))
