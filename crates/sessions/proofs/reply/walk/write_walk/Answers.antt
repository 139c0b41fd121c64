use Rattle.fields.proofs.laws.text.PutLaws.{puts-after, stops-in}
use Rattle.sessions.specs.Replies.{verdict_line, steps_text}
use Rattle.sessions.proofs.laws.ReplyLaws.{text_shown, reply_shown}
use Rattle.std.proofs.Common.{refl}
use Rattle.sessions.proofs.reply.walk.write_walk.Goals as goal

pub returns-in_err-put_entries-clause-text : goal.returns-in_err-put_entries-clause-text
returns-in_err-put_entries-clause-text g c =
    let t = c.args.table.now.table in let trail = c.args.trail.now in
    stops-in _ _ _ _ _ (steps_text t trail.steps.items) (verdict_line trail.verdict trail.by_policy) refl c.from_residual.ensures.0
    (rw c.steps.ensures at c.in_err-put_entries.ensures)

pub returns-in_err-put_entries-clause-walked : goal.returns-in_err-put_entries-clause-walked
returns-in_err-put_entries-clause-walked g c = λ walked shows. (
    let t = c.args.table.now.table in let trail = c.args.trail.now in
    stops-in _ _ _ _ _ (steps_text t trail.steps.items) (verdict_line trail.verdict trail.by_policy) (text_shown t walked trail shows) c.from_residual.ensures.0
    (rw c.steps.ensures at c.in_err-put_entries.ensures))

pub returns-in_err-put_entries-clause-packet : goal.returns-in_err-put_entries-clause-packet
returns-in_err-put_entries-clause-packet g c = λ packet shows. (
    let t = c.args.table.now.table in let trail = c.args.trail.now in
    stops-in _ _ _ _ _ (steps_text t trail.steps.items) (verdict_line trail.verdict trail.by_policy) (reply_shown t packet trail shows) c.from_residual.ensures.0
    (rw c.steps.ensures at c.in_err-put_entries.ensures))

pub returns-clause-text : goal.returns-clause-text
returns-clause-text g c =
    let t = c.args.table.now.table in let trail = c.args.trail.now in
    puts-after _ _ _ _ _ _ (steps_text t trail.steps.items) (verdict_line trail.verdict trail.by_policy) refl
    (rw c.steps.ensures at c.in_ok-put_entries.ensures) (rw c.by_policy.ensures at (rw c.verdict.ensures at c.put_verdict.ensures))

pub returns-clause-walked : goal.returns-clause-walked
returns-clause-walked g c = λ walked shows. (
    let t = c.args.table.now.table in let trail = c.args.trail.now in
    puts-after _ _ _ _ _ _ (steps_text t trail.steps.items) (verdict_line trail.verdict trail.by_policy) (text_shown t walked trail shows)
    (rw c.steps.ensures at c.in_ok-put_entries.ensures) (rw c.by_policy.ensures at (rw c.verdict.ensures at c.put_verdict.ensures)))

pub returns-clause-packet : goal.returns-clause-packet
returns-clause-packet g c = λ packet shows. (
    let t = c.args.table.now.table in let trail = c.args.trail.now in
    puts-after _ _ _ _ _ _ (steps_text t trail.steps.items) (verdict_line trail.verdict trail.by_policy) (reply_shown t packet trail shows)
    (rw c.steps.ensures at c.in_ok-put_entries.ensures) (rw c.by_policy.ensures at (rw c.verdict.ensures at c.put_verdict.ensures)))
