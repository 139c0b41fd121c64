use Rattle.std.proofs.Common.{◌∙◌, drop, sym, Ok, Err}
use Rattle.std.proofs.lemmas.Result.{err_from_is_err_and}
use Rattle.restore.proofs.laws.commands.NextLaws.{no_digits, digits_next}
use Rattle.restore.proofs.command.next.next_number_if_digits.Goals as goal

pub returns-then-not-is_digits : goal.returns-then-not-is_digits
returns-then-not-is_digits c =
    no_digits c.args.words.now c.args.place c.get.result.now c.get.ensures.value (sym c.is_digits.ensures ∙ c.if-not-is_digits.true)

pub returns-in_err-number : goal.returns-in_err-number
returns-in_err-number c =
    let p = err_from_is_err_and c.from_residual.result c.from_residual.ensures.1 in
    rw (p.1, p.2) (
    digits_next c.args.words.now c.args.place c.get.result.now (Err c.in_err-number.field-0.0) c.get.ensures.value
    (sym c.is_digits.ensures ∙ c.if-not-is_digits.false) c.in_err-number.ensures
    )

pub returns : goal.returns
returns c =
    let n = c.in_ok-number.number in
    digits_next c.args.words.now c.args.place c.get.result.now (Ok (n.0, drop n.1 c.args.words.now)) c.get.ensures.value
    (sym c.is_digits.ensures ∙ c.if-not-is_digits.false) c.in_ok-number.ensures
