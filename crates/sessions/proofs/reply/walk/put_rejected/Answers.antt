use Rattle.std.proofs.Common.{◌++◌, codes, refl}
use Rattle.fields.proofs.laws.text.PutLaws.{puts-after, stops-in}
use Rattle.fields.specs.values.RejectType.{reject_text}
use Rattle.sessions.specs.Replies.{cause_text}
use Rattle.sessions.proofs.reply.walk.put_rejected.Goals as goal

pub returns-in_err-put : goal.returns-in_err-put
returns-in_err-put g c =
    stops-in _ _ _ _ _ (codes "verdict REJECT ") (reject_text c.args.kind ++ cause_text c.args.by_policy) refl c.from_residual.ensures.0 c.in_err-put.ensures.puts

pub returns-in_err-put-2 : goal.returns-in_err-put-2
returns-in_err-put-2 g c =
    let kind = reject_text c.args.kind in let cause = cause_text c.args.by_policy in
    puts-after _ _ _ _ _ _ (codes "verdict REJECT ") (kind ++ cause) refl c.in_ok-put.ensures.puts
    (stops-in _ _ _ _ _ kind cause refl c.from_residual-in_err-put-2.ensures.0 c.in_err-put-2.ensures)

pub returns : goal.returns
returns g c =
    let kind = reject_text c.args.kind in let cause = cause_text c.args.by_policy in
    puts-after _ _ _ _ _ _ (codes "verdict REJECT ") (kind ++ cause) refl c.in_ok-put.ensures.puts
    (puts-after _ _ _ _ _ _ kind cause refl c.in_ok-put-2.ensures
    (rw c.cause_text.ensures at c.put-3.ensures.puts))
