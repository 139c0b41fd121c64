use Rattle.std.proofs.Common.{◌≡◌, ◌∙◌, ◌<◌, ap, arith, length, get_or, set, true, false}
use Rattle.std.proofs.lemmas.List.{length-set}
use Rattle.classify.specs.steps.Pieces.{row_bits}
use Rattle.bits.specs.MarginRows.{Room}
use Rattle.classify.specs.steps.Kept.{PiecesAndRoom}
use Rattle.classify.proofs.laws.line.PieceLaws.{each_row_kept, kept_pieces, pieces_mapped, set_where_none}
use Rattle.classify.proofs.laws.line.KeptLaws.{row_long, mapped_line}
use Rattle.classify.proofs.line.owned.OwnedLine.set_all.Goals as goal

pub turn_all-requires-clause-place : goal.turn_all-requires-clause-place
turn_all-requires-clause-place c =
    each_row_kept (λ row. c.args.at < length row) _ _ _ _ c.args.self.now c.self.invariant c.self.view_is (λ k lt. omega (arith, row_long c.args.self.now k lt, c.requires.place))

pub invariant_of-self-inside : goal.invariant_of-self-inside
invariant_of-self-inside c = (
  mapped_line (λ row. set row c.args.at true) (row_bits c.args.self.now.pieces) _ c.args.self.now (λ bs e. length-set bs c.args.at true ∙ e) (omega (arith, c.args.self.now.stands.whole, ap (λ (r : Room). r.places) c.turn_all.ensures.room, ap (λ (l : PiecesAndRoom). l.room.places) c.self.view_is)) _
      (pieces_mapped _ _ _ (λ row. set row c.args.at true) _ (kept_pieces _ _ _ _ _ c.self.view_is) (c.turn_all.ensures.rows ∙ set_where_none _ c.args.at (
      each_row_kept (λ row. get_or row c.args.at false ≡ false) _ _ _ _ c.args.self.now c.self.invariant c.self.view_is c.requires.none))),
  tt,
)

pub returns-clause-pieces : goal.returns-clause-pieces
returns-clause-pieces c = pieces_mapped _ _ _ (λ row. set row c.args.at true) _ (kept_pieces _ _ _ _ _ c.self.view_is) (c.turn_all.ensures.rows ∙ set_where_none _ c.args.at (
    each_row_kept (λ row. get_or row c.args.at false ≡ false) _ _ _ _ c.args.self.now c.self.invariant c.self.view_is c.requires.none))
