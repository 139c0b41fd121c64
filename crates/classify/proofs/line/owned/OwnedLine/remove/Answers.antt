use Rattle.std.proofs.Common.{ap, arith}
use Rattle.bits.specs.MarginRows.{Room}
use Rattle.classify.specs.steps.Kept.{PiecesAndRoom}
use Rattle.classify.proofs.laws.line.PieceLaws.{kept_long, kept_pieces, pieces_removed}
use Rattle.classify.proofs.laws.line.KeptLaws.{left_kept}
use Rattle.classify.proofs.line.owned.OwnedLine.remove.Goals as goal

pub remove-requires : goal.remove-requires
remove-requires c = omega (arith, kept_long _ _ _ _ _ c.self.invariant c.self.view_is, c.requires.piece)

pub remove-requires-2 : goal.remove-requires-2
remove-requires-2 c = omega (arith, c.self.invariant, kept_long _ _ _ _ _ c.self.invariant c.self.view_is, c.requires.piece)

pub invariant_of-self-inside : goal.invariant_of-self-inside
invariant_of-self-inside c = (
  left_kept c.args.self.now c.args.k _ c.requires.later (omega (arith, ap (λ (r : Room). r.places) c.remove-2.ensures.room, ap (λ (l : PiecesAndRoom). l.room.places) c.self.view_is)) _
      (pieces_removed _ _ _ _ c.args.k _ c.self.invariant (kept_pieces _ _ _ _ _ c.self.view_is) c.remove.ensures c.remove-2.ensures.rows),
  tt,
)

pub returns-clause-pieces : goal.returns-clause-pieces
returns-clause-pieces c = pieces_removed _ _ _ _ c.args.k _ c.self.invariant (kept_pieces _ _ _ _ _ c.self.view_is) c.remove.ensures c.remove-2.ensures.rows
