use Rattle.std.proofs.Common.{rules}
use Rattle.std.proofs.lemmas.List.FromFn.{fill_by_all}
use Rattle.sessions.specs.Replies.{digit_at, hexadecimal}
use Rattle.sessions.proofs.reply.lines.hexadecimal.Goals as goal

pub returns : goal.returns
unfolding hexadecimal
returns c = fill_by_all (digit_at c.args.number) c.loop-place.text 32 0 c.loop-place.invariant.0 (search rules)
