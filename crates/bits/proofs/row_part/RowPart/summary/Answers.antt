use Rattle.std.proofs.Common.{◌≡◌, ◌-◌, ◌+◌, arith, length, rules}
use Rattle.bits.proofs.laws.PartLaws.{part_summed}
use Rattle.bits.proofs.row_part.RowPart.summary.Goals as goal

pub returns : goal.returns
returns c = λ width.
    let four : length c.args.self.now.words ≡ 4 = search rules in
    part_summed c.args.self.now.start (width - (c.args.self.now.start + 4)) c.loop-k.summary c.args.self.now.words (λ k lt some. c.loop-k.invariant k (omega (arith, c.loop-k-test.false)) some)
