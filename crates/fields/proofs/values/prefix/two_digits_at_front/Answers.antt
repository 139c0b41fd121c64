use Rattle.std.proofs.Common.{◌≡◌, ◌==◌, false, get_or, ne_eqb, arith, rules}
use Rattle.std.proofs.lemmas.List.{take_rest}
use Rattle.fields.proofs.laws.values.PrefixLaws.{two_octet}
use Rattle.fields.proofs.values.prefix.two_digits_at_front.Goals as goal

pub returns-clause-value : goal.returns-clause-value
returns-clause-value c =
    let text = c.args.text.now in
    let lead : (get_or text 0 0 == 48) ≡ false = ne_eqb (get_or text 0 0) 48 c.if-text-eq48.false in
    two_octet text _ _ (omega arith) (search rules) (take_rest text 3) lead (search rules) (search rules) (search rules) (omega arith)
