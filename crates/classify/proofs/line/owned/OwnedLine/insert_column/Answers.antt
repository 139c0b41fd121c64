use Rattle.std.proofs.Common.{◌+◌, ◌≤◌, ap, arith, length, insert, false}
use Rattle.std.proofs.lemmas.List.Edits.{length-insert}
use Rattle.classify.specs.steps.Pieces.{row_bits}
use Rattle.classify.specs.steps.Kept.{PiecesAndRoom}
use Rattle.classify.proofs.laws.line.PieceLaws.{each_row_kept, kept_pieces, pieces_mapped}
use Rattle.classify.proofs.laws.line.KeptLaws.{row_long, mapped_line}
use Rattle.classify.proofs.line.owned.OwnedLine.insert_column.Goals as goal

pub insert_column-requires-clause-place : goal.insert_column-requires-clause-place
insert_column-requires-clause-place c =
    each_row_kept (λ row. c.args.at ≤ length row) _ _ _ _ c.args.self.now c.self.invariant c.self.view_is (λ k lt. omega (arith, row_long c.args.self.now k lt, c.requires.place))

pub invariant_of-self-inside : goal.invariant_of-self-inside
invariant_of-self-inside c = (
  mapped_line (λ row. insert row c.args.at false) (row_bits c.args.self.now.pieces + 1) _ c.args.self.now (λ bs e. omega (arith, length-insert bs c.args.at false (omega (arith, c.requires.place)), e)) (omega (arith, c.args.self.now.stands.whole, c.insert_column.ensures.room, ap (λ (l : PiecesAndRoom). l.room.places) c.self.view_is)) _
      (pieces_mapped _ _ _ (λ row. insert row c.args.at false) _ (kept_pieces _ _ _ _ _ c.self.view_is) c.insert_column.ensures.rows),
  tt,
)

pub returns-clause-pieces : goal.returns-clause-pieces
returns-clause-pieces c = pieces_mapped _ _ _ (λ row. insert row c.args.at false) _ (kept_pieces _ _ _ _ _ c.self.view_is) c.insert_column.ensures.rows
