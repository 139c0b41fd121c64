use Rattle.std.proofs.Common.{[], arith}
use Rattle.fields.proofs.laws.text.PutLaws.{puts-stopped, stopped-at}
use Rattle.sessions.specs.Replies.{piece_text}
use Rattle.sessions.proofs.reply.lines.put_pieces.Goals as goal

pub returns-in_err-put_piece : goal.returns-in_err-put_piece
returns-in_err-put_piece g c =
    puts-stopped _ _ _ _ _ c.from_residual.ensures.0
    (stopped-at (piece_text c.args.field) c.args.line.now c.loop-at.at (0, []) (omega arith) c.loop-at.invariant
    (rw c.piece.ensures at c.in_err-put_piece.ensures))
