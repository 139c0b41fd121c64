use Rattle.std.proofs.Common.{◌≡◌, ◌+◌, ◌*◌, ◌/◌, ◌%◌, ◌^◌, ◌∙◌, sym, ap, arith, get_or, false, List, ℕ}
use Rattle.bits.specs.steps.Packing.{all_bits, low_bit}
use Rattle.bits.specs.steps.StoredRows.{words_of}
use Rattle.bits.proofs.laws.BitLaws.{all_bit_at}
use Rattle.bits.proofs.row_words.RowWords.bit.Goals as goal

pub returns : goal.returns
returns c =
    let at : ℕ = c.args.at in
    let words : List ℕ = words_of c.args.self.now in
    let whole : 64 * (at / 64) + at % 64 ≡ at = omega arith in
    ap (λ word. low_bit (word / 2 ^ (at % 64))) c.word.ensures ∙ sym (all_bit_at words (at / 64) (at % 64) (omega arith)) ∙ ap (λ k. get_or (all_bits words) k false) whole
