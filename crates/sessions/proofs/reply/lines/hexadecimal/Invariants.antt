use Rattle.std.proofs.Common.{◌≡◌, ℕ, ◌<◌, length, get_or}
use Rattle.sessions.specs.Replies.{digit_at}
use Rattle.sessions.proofs.reply.lines.hexadecimal.Given as goal

abbrev pub invariant-loop-place : goal.invariant-loop-place
invariant-loop-place l = (length l.text ≡ 32) × ((k : ℕ) → k < l.place → get_or l.text k 0 ≡ digit_at l.number k)
