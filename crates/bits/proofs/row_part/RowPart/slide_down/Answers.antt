use Rattle.std.proofs.Common.{◌-◌, ◌+◌, arith, rules}
use Rattle.bits.proofs.laws.PartLaws.{part_moves_down}
use Rattle.bits.proofs.row_part.RowPart.slide_down.Goals as goal

pub returns-then-self-ge2-clause-same : goal.returns-then-self-ge2-clause-same
returns-then-self-ge2-clause-same c =
    let part = c.args.self.now in
    part_moves_down part.start (part.start - 2) (c.args.width - (part.start + 4)) (c.args.width - (part.start - 2 + 4)) part.words (search rules) (omega arith) (omega arith) c.if-self-eq0.true c.if-self-eq0-2.true
