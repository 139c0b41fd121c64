use Rattle.std.proofs.Common.{◌≡◌, ◌+◌, ◌*◌, ◌/◌, ◌%◌, ◌^◌, ◌∙◌, sym, ap, arith, get_or, false, List, ℕ}
use Rattle.bits.specs.steps.Held.{words_in}
use Rattle.bits.specs.steps.Packing.{all_bits, low_bit}
use Rattle.bits.proofs.laws.BitLaws.{all_bit_at}
use Rattle.bits.proofs.each_row.bit_in.Goals as goal

pub returns : goal.returns
returns c =
    let at : ℕ = c.args.at in
    let row : List ℕ = words_in c.args.words.now.width c.args.words.now.words c.args.slot in
    let whole : 64 * (at / 64) + at % 64 ≡ at = omega arith in
    ap (λ word. low_bit (word / 2 ^ (at % 64))) c.word.ensures ∙ sym (all_bit_at row (at / 64) (at % 64) (omega arith)) ∙ ap (λ k. get_or (all_bits row) k false) whole
