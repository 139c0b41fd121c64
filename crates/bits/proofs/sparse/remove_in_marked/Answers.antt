use Rattle.std.proofs.Common.{arith, ◌/◌, ◌%◌, ◌+◌, ◌++◌, ◌∷◌, [], ◌∙◌, ap, not, get_or, remove}
use Rattle.std.proofs.lemmas.Bool.{ne_eqb}
use Rattle.bits.specs.steps.Packing.{low_bit, word_bits}
use Rattle.bits.proofs.laws.ShiftLaws.{sums_kept, sums_all, fallen_first, fallen_more, fallen_past, fallen_all, rest_hides_none}
use Rattle.bits.proofs.sparse.remove_in_marked.Goals as goal

pub next_down-k-requires-clause-summed : goal.next_down-k-requires-clause-summed
next_down-k-requires-clause-summed c =
    let moved = fallen_first c.args.words.now c.args.at c.remove_bit-moved.result c.kept.result c.marked-new.result c.requires.place (sums_kept c.args.summary.now c.kept.result c.args.words.now (c.args.at / 64) c.requires.summed c.kept.ensures)
    (c.remove_bit-moved.ensures ∙ ap (λ w. remove (word_bits 64 (get_or c.args.words.now (c.args.at / 64) 0)) (c.args.at % 64) ++ low_bit w ∷ []) c.word_at-above.ensures) c.marked-new.ensures.kept (λ ne. c.marked-new.ensures.more (ap not (ne_eqb _ 0 ne))) in
    rest_hides_none c.args.words.now _ c.args.summary.now (c.args.at / 64 + 1) c.requires.summed moved.rest

pub loop-k-init : goal.loop-k-init
loop-k-init c =
    let moved = fallen_first c.args.words.now c.args.at c.remove_bit-moved.result c.kept.result c.marked-new.result c.requires.place (sums_kept c.args.summary.now c.kept.result c.args.words.now (c.args.at / 64) c.requires.summed c.kept.ensures)
    (c.remove_bit-moved.ensures ∙ ap (λ w. remove (word_bits 64 (get_or c.args.words.now (c.args.at / 64) 0)) (c.args.at % 64) ++ low_bit w ∷ []) c.word_at-above.ensures) c.marked-new.ensures.kept (λ ne. c.marked-new.ensures.more (ap not (ne_eqb _ 0 ne))) in
    record {
      fallen = fallen_past c.args.words.now c.args.at _ (c.args.at / 64 + 1) c.next_down-k.result c.marked-new.result moved c.next_down-k.ensures.blank c.next_down-k.ensures.low c.next_down-k.ensures.high;
      within = c.next_down-k.ensures.high;
    }

pub next_down-k-requires-in-loop-k-clause-summed : goal.next_down-k-requires-in-loop-k-clause-summed
next_down-k-requires-in-loop-k-clause-summed c =
    let moved = fallen_more c.args.words.now c.args.at c.loop-k.words c.loop-k.k c.shift_down-moved.result c.loop-k.new c.marked-new-in-loop-k.result c.loop-k.invariant.fallen (omega (arith, c.loop-k-test.true))
    (c.shift_down-moved.ensures ∙ ap (λ w. remove (word_bits 64 (get_or c.loop-k.words c.loop-k.k 0)) 0 ++ low_bit w ∷ []) c.word_at.ensures) c.marked-new-in-loop-k.ensures.kept (λ ne. c.marked-new-in-loop-k.ensures.more (ap not (ne_eqb _ 0 ne))) in
    rest_hides_none c.args.words.now _ c.args.summary.now (c.loop-k.k + 1) c.requires.summed moved.rest

pub loop-k-preserved : goal.loop-k-preserved
loop-k-preserved c =
    let moved = fallen_more c.args.words.now c.args.at c.loop-k.words c.loop-k.k c.shift_down-moved.result c.loop-k.new c.marked-new-in-loop-k.result c.loop-k.invariant.fallen (omega (arith, c.loop-k-test.true))
    (c.shift_down-moved.ensures ∙ ap (λ w. remove (word_bits 64 (get_or c.loop-k.words c.loop-k.k 0)) 0 ++ low_bit w ∷ []) c.word_at.ensures) c.marked-new-in-loop-k.ensures.kept (λ ne. c.marked-new-in-loop-k.ensures.more (ap not (ne_eqb _ 0 ne))) in
    record {
      fallen = fallen_past c.args.words.now c.args.at _ (c.loop-k.k + 1) c.next_down-k-in-loop-k.result c.marked-new-in-loop-k.result moved c.next_down-k-in-loop-k.ensures.blank c.next_down-k-in-loop-k.ensures.low c.next_down-k-in-loop-k.ensures.high;
      within = c.next_down-k-in-loop-k.ensures.high;
    }

pub returns-clause-given : goal.returns-clause-given
returns-clause-given c = fallen_all c.args.words.now c.args.at c.loop-k.words c.loop-k.k c.loop-k.new c.loop-k.invariant.fallen (omega (arith, c.loop-k-test.false))

pub returns-clause-summed : goal.returns-clause-summed
returns-clause-summed c = sums_all c.loop-k.new c.loop-k.words c.loop-k.k c.loop-k.invariant.fallen.sums (omega (arith, c.loop-k-test.false))
