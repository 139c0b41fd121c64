use Rattle.std.proofs.Common.{arith, rules}
use Rattle.std.proofs.lemmas.List.{take_rest}
use Rattle.fields.proofs.laws.values.PrefixLaws.{one_octet}
use Rattle.fields.proofs.values.prefix.one_digit_at_front.Goals as goal

pub returns-clause-value : goal.returns-clause-value
returns-clause-value c =
    let text = c.args.text.now in
    one_octet text _ _ (omega arith) (search rules) (take_rest text 2) (search rules) (search rules) (omega arith)
