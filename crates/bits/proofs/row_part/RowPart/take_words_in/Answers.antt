use Rattle.std.proofs.Common.{◌-◌, ◌+◌, arith, rules}
use Rattle.bits.proofs.laws.PartLaws.{part_slides_up, last_part_moves_up}
use Rattle.bits.proofs.row_part.RowPart.take_words_in.Goals as goal

pub returns-then-width-self-ge6-clause-taken : goal.returns-then-width-self-ge6-clause-taken
returns-then-width-self-ge6-clause-taken c = λ made.
    let part = c.args.self.now in
    part_slides_up part.start (c.args.width - (part.start + 4)) (c.args.width - (part.start + 2 + 4)) part.words (omega arith)

pub returns-clause-taken : goal.returns-clause-taken
returns-clause-taken c = λ made.
    let part = c.args.self.now in
    last_part_moves_up part.start (c.args.width - (part.start + 4)) part.words (omega arith) (search rules)
