use Rattle.std.proofs.Common.{◌-◌, ◌+◌, arith, rules}
use Rattle.bits.proofs.laws.PartLaws.{part_moves_up}
use Rattle.bits.proofs.row_part.RowPart.slide_up.Goals as goal

pub returns-then-width-self-ge6-clause-same : goal.returns-then-width-self-ge6-clause-same
returns-then-width-self-ge6-clause-same c =
    let part = c.args.self.now in
    part_moves_up part.start (c.args.width - (part.start + 4)) (c.args.width - (part.start + 2 + 4)) part.words (search rules) (omega arith) c.if-self-eq0.true c.if-self-eq0-2.true
