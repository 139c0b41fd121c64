use Rattle.std.proofs.Common.{◌≡◌, ◌<◌, ◌*◌, ◌/◌, ◌∙◌, sym, ap, arith, length, take, get_or, false, List, Bool, ℕ}
use Rattle.std.proofs.lemmas.List.{take_all, get_or_default}
use Rattle.bits.specs.steps.Packing.{all_bits}
use Rattle.bits.proofs.laws.BitLaws.{length-all_bits}
use Rattle.bits.proofs.laws.RowLaws.{bit_at}
use Rattle.bits.proofs.words.bit_at.Goals as goal

pub returns : goal.returns
returns c =
    let ws : List ℕ = c.args.words.now in
    let n : ℕ = 64 * length ws in
    let word : ℕ = get_or ws (c.args.at / 64) 0 in
    let within : c.args.at / 64 < length ws = omega (arith, c.requires) in
    let whole : take n (all_bits ws) ≡ all_bits ws = take_all n (all_bits ws) (omega (arith, length-all_bits ws)) in
    sym (bit_at ws n c.args.at word (omega arith) c.requires (get_or_default ws (c.args.at / 64) 0 word within)) ∙ ap (λ (bits : List Bool). get_or bits c.args.at false) whole
