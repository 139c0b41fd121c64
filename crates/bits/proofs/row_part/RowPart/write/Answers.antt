use Rattle.std.proofs.Common.{◌≡◌, ◌-◌, ◌+◌, ◌/◌, arith, get_or, length, rules}
use Rattle.bits.proofs.laws.PartLaws.{part_written}
use Rattle.bits.proofs.row_part.RowPart.write.Goals as goal

pub returns-clause-written : goal.returns-clause-written
returns-clause-written c = λ width.
    let part = c.args.self.now in
    let four : length part.words ≡ 4 = search rules in
    part_written part.start (width - (part.start + 4)) c.args.at c.set_bit.result (get_or part.words (c.args.at / 64 - part.start) 0) c.args.bit part.words c.requires.from (omega arith) (λ _. get_or part.words (c.args.at / 64 - part.start) 0) c.set_bit.ensures
