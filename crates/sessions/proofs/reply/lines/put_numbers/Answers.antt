use Rattle.std.proofs.Common.{◌+◌, List, ℕ, drop, sym, subst}
use Rattle.std.specs.Prelude.{decimal}
use Rattle.fields.specs.text.Tap.{Wrote}
use Rattle.fields.proofs.laws.text.PutLaws.{puts-after, stops-in, wrote-nothing}
use Rattle.sessions.specs.Replies.{further_numbers}
use Rattle.sessions.proofs.laws.ReplyLaws.{text_of_none, text_of_first}
use Rattle.sessions.proofs.reply.lines.put_numbers.Goals as goal

pub returns-in_default : goal.returns-in_default
returns-in_default g c =
    subst (λ (text : List ℕ). Wrote g.W.Write.contents c.args.output.now c.args.output.now text) (sym (text_of_none c.args.row.now (sym c.in_default.ensures))) (wrote-nothing c.requires)

pub returns-in_err-put_decimal : goal.returns-in_err-put_decimal
returns-in_err-put_decimal g c =
    let first = c.in-Some.first in let row = c.args.row.now in
    stops-in _ _ _ _ _ (decimal (first + 1)) (further_numbers (first + 1 + 1) (drop (first + 1) row)) (text_of_first row first (sym c.in-Some.ensures)) c.from_residual.ensures.0
    c.in_err-put_decimal.ensures

pub returns : goal.returns
returns g c =
    let first = c.in-Some.first in let row = c.args.row.now in
    puts-after _ _ _ _ _ _ (decimal (first + 1)) (further_numbers (first + 1 + 1) (drop (first + 1) row)) (text_of_first row first (sym c.in-Some.ensures)) c.in_ok-put_decimal.ensures
    c.put_further.ensures
