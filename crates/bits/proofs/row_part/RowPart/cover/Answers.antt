use Rattle.std.proofs.Common.{◌-◌, ◌+◌, arith}
use Rattle.bits.proofs.laws.PartLaws.{blank_part_moves}
use Rattle.bits.proofs.row_part.RowPart.cover.Goals as goal

pub returns-then-is_blank-clause-same : goal.returns-then-is_blank-clause-same
returns-then-is_blank-clause-same c =
    let part = c.args.self.now in
    blank_part_moves part.start (c.args.width - (part.start + 4)) c.min-self.result (c.args.width - (c.min-self.result + 4)) part.words (c.is_blank.ensures.0 c.if-is_blank.true) (omega arith)
