use Rattle.std.proofs.Common.{◌-◌, ◌<◌, ap, arith, length, remove}
use Rattle.std.proofs.lemmas.List.Edits.{length-remove}
use Rattle.classify.specs.steps.Pieces.{row_bits}
use Rattle.classify.specs.steps.Kept.{PiecesAndRoom}
use Rattle.classify.proofs.laws.line.PieceLaws.{each_row_kept, kept_pieces, pieces_mapped}
use Rattle.classify.proofs.laws.line.KeptLaws.{row_long, mapped_line}
use Rattle.classify.proofs.line.owned.OwnedLine.remove_column.Goals as goal

pub remove_column-requires-clause-place : goal.remove_column-requires-clause-place
remove_column-requires-clause-place c =
    each_row_kept (λ row. c.args.at < length row) _ _ _ _ c.args.self.now c.self.invariant c.self.view_is (λ k lt. omega (arith, row_long c.args.self.now k lt, c.requires))

pub invariant_of-self-inside : goal.invariant_of-self-inside
invariant_of-self-inside c = (
  mapped_line (λ row. remove row c.args.at) (row_bits c.args.self.now.pieces - 1) _ c.args.self.now (λ bs e. omega (arith, length-remove bs c.args.at (omega (arith, c.requires)), e)) (omega (arith, c.args.self.now.stands.whole, c.requires, c.remove_column.ensures.room, ap (λ (l : PiecesAndRoom). l.room.places) c.self.view_is)) _
      (pieces_mapped _ _ _ (λ row. remove row c.args.at) _ (kept_pieces _ _ _ _ _ c.self.view_is) c.remove_column.ensures.rows),
  tt,
)

pub returns-clause-pieces : goal.returns-clause-pieces
returns-clause-pieces c = pieces_mapped _ _ _ (λ row. remove row c.args.at) _ (kept_pieces _ _ _ _ _ c.self.view_is) c.remove_column.ensures.rows
