use Rattle.std.proofs.Common.{arith, inl, inr}
use Rattle.bits.proofs.laws.PartLaws.{four_blank, four_kept, length-words_of}
use Rattle.bits.proofs.row_words.RowWords.four.Goals as goal

pub returns-then-at-self : goal.returns-then-at-self
returns-then-at-self c = four_kept c.args.self.now c.args.place c.if-self-place.true c.if-at-self.true (omega (arith, c.requires, length-words_of c.args.self.now))

pub returns-then-at-self-2 : goal.returns-then-at-self-2
returns-then-at-self-2 c =
    four_blank c.args.self.now c.args.place (omega (arith, c.requires, length-words_of c.args.self.now)) (inr (omega (arith, c.if-self-place.true, c.if-at-self-2.true)))

pub returns-then-place-self : goal.returns-then-place-self
returns-then-place-self c = four_blank c.args.self.now c.args.place (omega (arith, c.requires, length-words_of c.args.self.now)) (inl c.if-place-self.true)
