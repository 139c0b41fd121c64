use Rattle.std.proofs.Common.{take, flat_map}
use Rattle.fields.specs.text.Tap.{Wrote}
use Rattle.sessions.specs.Replies.{entry_at, entry_line}
use Rattle.sessions.proofs.reply.walk.put_entries.Given as goal

abbrev pub invariant-loop-step : goal.invariant-loop-step
invariant-loop-step g l = Wrote g.W.Write.contents l.initial.output l.output (flat_map (λ step. entry_line (entry_at l.table.table step)) (take l.step-index l.steps))
