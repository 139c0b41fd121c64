use Rattle.std.proofs.Common.{arith}
use Rattle.std.proofs.lemmas.Bool.{false≢true, eqb-true, eq-eqb}
use Rattle.bits.proofs.laws.SameLaws.{alike_elsewhere, alike_cleared, cleared_alike}
use Rattle.bits.proofs.words.same_word_beside.Goals as goal

pub returns-then-k-at : goal.returns-then-k-at
returns-then-k-at c = (
  λ t. absurd (false≢true t),
  λ h. absurd (c.if-word-other.false (alike_elsewhere c.args.at c.args.k c.args.word c.args.other (omega (arith, c.ranges.word)) (omega (arith, c.ranges.other)) c.if-k-at.true h)),
)

pub returns : goal.returns
returns c = (
  λ t. alike_cleared c.args.at c.args.k c.args.word c.args.other c.set_bit.result c.set_bit-2.result c.if-k-at.false c.set_bit.ensures c.set_bit-2.ensures (eqb-true c.set_bit.result c.set_bit-2.result t),
  λ h. eq-eqb c.set_bit.result c.set_bit-2.result (cleared_alike c.args.at c.args.k c.args.word c.args.other c.set_bit.result c.set_bit-2.result (omega (arith, c.set_bit.type_inv)) (omega (arith, c.set_bit-2.type_inv)) c.if-k-at.false c.set_bit.ensures c.set_bit-2.ensures h),
)
