use Rattle.std.proofs.Common.{◌≡◌, ℕ, ◌-◌, ◌+◌, arith, rules, subst}
use Rattle.bits.specs.steps.Held.{GivesWordsUp}
use Rattle.bits.proofs.laws.PartLaws.{padded, part_slides_down, first_part_moves_down}
use Rattle.bits.proofs.row_part.RowPart.give_words_up.Goals as goal

pub returns-then-self-ge2-clause-given : goal.returns-then-self-ge2-clause-given
returns-then-self-ge2-clause-given c = λ made.
    let part = c.args.self.now in
    let after : c.args.width - (part.start + 4) + 2 ≡ c.args.width - (part.start - 2 + 4) = omega arith in
    let P : ℕ → Type 0 = λ k. GivesWordsUp (padded part.start part.words (c.args.width - (part.start + 4))) (padded (part.start - 2) part.words k) in
    subst P after (part_slides_down part.start (part.start - 2) (c.args.width - (part.start + 4)) part.words (omega arith))

pub returns-clause-given : goal.returns-clause-given
returns-clause-given c = λ made.
    let part = c.args.self.now in
    first_part_moves_down part.start (c.args.width - (part.start + 4)) part.words (omega arith) (search rules)
