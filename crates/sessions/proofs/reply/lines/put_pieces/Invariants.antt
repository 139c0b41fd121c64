use Rattle.std.proofs.Common.{take, flat_map}
use Rattle.fields.specs.text.Tap.{Wrote}
use Rattle.sessions.specs.Replies.{piece_text}
use Rattle.sessions.proofs.reply.lines.put_pieces.Given as goal

abbrev pub invariant-loop-at : goal.invariant-loop-at
invariant-loop-at g l = Wrote g.W.Write.contents l.initial.output l.output (flat_map (piece_text l.field) (take l.at l.line))
