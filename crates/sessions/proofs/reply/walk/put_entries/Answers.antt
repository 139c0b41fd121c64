use Rattle.fields.proofs.laws.text.PutLaws.{puts-stopped, stopped-at}
use Rattle.table.specs.declared.walk.trail.Step.{Step}
use Rattle.sessions.specs.Replies.{entry_at, entry_line}
use Rattle.sessions.proofs.reply.walk.put_entries.Goals as goal

pub returns-in_err-put_entry : goal.returns-in_err-put_entry
returns-in_err-put_entry g c =
    puts-stopped _ _ _ _ _ c.from_residual.ensures.0
    (stopped-at (λ (step : Step). entry_line (entry_at c.args.table.now.table step)) c.args.steps.now c.loop-step.step-index _ c.loop-step-test.true c.loop-step.invariant c.in_err-put_entry.ensures)
