use Rattle.std.proofs.Common.{◌∙◌, ap}
use Rattle.std.specs.List.{zip}
use Rattle.bits.specs.MarginRows.{RowsInRoom}
use Rattle.classify.specs.steps.Kept.{PiecesAndRoom}
use Rattle.classify.proofs.laws.line.PieceLaws.{kept_pieces}
use Rattle.classify.proofs.laws.line.KeptLaws.{same_line}
use Rattle.classify.proofs.line.owned.OwnedLine.copy.Goals as goal

pub returns : goal.returns
returns c =
    let starts = c.in_ok-copy.ensures in
    let rows = c.in_ok-copy-2.ensures in
    same_line _ _ ((λ i. zip (starts i) (rows i).rows) ∙ kept_pieces _ _ _ _ _ c.self.view_is)
    (ap (λ (r : RowsInRoom). r.room) rows ∙ ap (λ (l : PiecesAndRoom). l.room) c.self.view_is)
