use Rattle.std.proofs.Common.{length, arith}
use Rattle.std.proofs.lemmas.Result.{err_from_is_err_and}
use Rattle.restore.proofs.laws.commands.NextLaws.{last_fails}
use Rattle.restore.proofs.command.next.last_word_if_any.Goals as goal

pub returns-in_err-word : goal.returns-in_err-word
returns-in_err-word c =
    let p = err_from_is_err_and c.from_residual.result c.from_residual.ensures.1 in
    rw (p.1, p.2) (last_fails (length c.args.words.now) c.args.words.now c.args.place c.in_err-word.field-0.0 (omega arith) c.in_err-word.ensures)
