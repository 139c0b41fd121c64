use Rattle.std.proofs.Common.{sym, ap, ◌++◌}
use Rattle.fields.proofs.laws.text.PutLaws.{puts-after, stops-in}
use Rattle.rules.specs.steps.Writing.{value_text}
use Rattle.rules.proofs.laws.printing.PrintLaws.{option_value-parts}
use Rattle.rules.proofs.printing.put_option_value.Goals as goal

pub returns-in_err-put_bang : goal.returns-in_err-put_bang
returns-in_err-put_bang g c = stops-in _ _ _ _ _ _ _ (option_value-parts c.args.option_value.now) c.from_residual.ensures.0 c.in_err-put_bang.ensures

pub returns-in_err-put : goal.returns-in_err-put
returns-in_err-put g c =
    let s = c.args.option_value.now in
    let same = ap (λ l. l ++ value_text s.value) (sym c.spaced_option.ensures) in
    puts-after _ _ _ _ _ _ _ _ (option_value-parts s) c.in_ok-put_bang.ensures (stops-in _ _ _ _ _ _ _ same c.from_residual-in_err-put.ensures.0 c.in_err-put.ensures.puts)

pub returns : goal.returns
returns g c =
    let s = c.args.option_value.now in
    let same = ap (λ l. l ++ value_text s.value) (sym c.spaced_option.ensures) in
    puts-after _ _ _ _ _ _ _ _ (option_value-parts s) c.in_ok-put_bang.ensures (puts-after _ _ _ _ _ _ _ _ same c.in_ok-put.ensures.puts c.put_words.ensures)
