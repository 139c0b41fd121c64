use Rattle.std.proofs.Common.{arith, ◌/◌, ◌%◌, ◌++◌, ◌∷◌, [], ◌∙◌, ap, get_or, remove, length-set}
use Rattle.bits.specs.steps.Packing.{low_bit, word_bits}
use Rattle.bits.proofs.laws.ShiftLaws.{all_fallen_first, all_fallen_more, all_fallen_last}
use Rattle.bits.proofs.words.shift_out.Goals as goal

pub loop-k-init : goal.loop-k-init
loop-k-init c =
    all_fallen_first c.args.words.now c.args.at c.remove_bit.result c.requires
    (c.remove_bit.ensures ∙ ap (λ w. remove (word_bits 64 (get_or c.args.words.now (c.args.at / 64) 0)) (c.args.at % 64) ++ low_bit w ∷ []) c.word_at-above.ensures)

pub loop-k-preserved : goal.loop-k-preserved
loop-k-preserved c = all_fallen_more c.args.words.now c.args.at c.loop-k.words c.loop-k.k c.shift_down.result c.loop-k.invariant (omega (arith, c.loop-k.invariant.as_long)) c.shift_down.ensures

pub returns-then-first-last : goal.returns-then-first-last
returns-then-first-last c =
    let same = length-set c.args.words.now (c.args.at / 64) c.remove_bit.result in
    all_fallen_last c.args.words.now c.args.at c.loop-k.words c.loop-k.k (_) c.shift_down-then-first-last.result c.loop-k.invariant
    (omega (arith, c.loop-k.auto.k-end, c.loop-k-test.false, c.if-first-last.true)) (omega (arith, same, c.loop-k.invariant.as_long)) c.shift_down-then-first-last.ensures
