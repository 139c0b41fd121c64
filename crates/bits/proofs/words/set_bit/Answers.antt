use Rattle.std.proofs.Common.{◌∙◌, ap, sym}
use Rattle.std.specs.Prelude.{nat_eq}
use Rattle.std.specs.Int.{w64}
use Rattle.std.proofs.lemmas.Nat.Bits.{bit_at_set_same, bit_at_set_other, bit_at_clear_same, bit_at_clear_other}
use Rattle.bits.proofs.laws.BitLaws.{bit_written}
use Rattle.bits.proofs.words.set_bit.Goals as goal

pub returns-then-bit : goal.returns-then-bit
returns-then-bit c =
    bit_written _ c.args.word c.args.offset c.args.bit c.requires (ap (λ x. nat_eq x 1) (bit_at_set_same w64 c.args.word c.args.offset c.requires) ∙ sym c.if-bit.true)
    (λ i lt ne. bit_at_set_other w64 c.args.word c.args.offset c.requires i ne)

pub returns : goal.returns
returns c =
    bit_written _ c.args.word c.args.offset c.args.bit c.requires (ap (λ x. nat_eq x 1) (bit_at_clear_same w64 c.args.word c.args.offset c.requires) ∙ sym c.if-bit.false)
    (λ i lt ne. bit_at_clear_other w64 c.args.word c.args.offset c.requires i lt ne)
