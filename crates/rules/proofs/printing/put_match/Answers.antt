use Rattle.std.proofs.Common.{refl, sym, ap, ◌++◌, flat_map}
use Rattle.fields.proofs.laws.text.PutLaws.{puts-after, stops-in}
use Rattle.rules.specs.steps.Writing.{start_text, option_value_text}
use Rattle.rules.proofs.printing.put_match.Goals as goal

pub returns-in_err-put_start : goal.returns-in_err-put_start
returns-in_err-put_start g c = stops-in _ _ _ _ _ _ _ refl c.from_residual.ensures.0 c.in_err-put_start.ensures

pub returns : goal.returns
returns g c =
    let e = ap (λ ss. start_text c.args.one.now.kind ++ flat_map option_value_text ss) (sym c.as_slice.ensures.value) in
    puts-after _ _ _ _ _ _ _ _ e c.in_ok-put_start.ensures c.put_option_values.ensures
