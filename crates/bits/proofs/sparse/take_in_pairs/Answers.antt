use Rattle.std.proofs.Common.{false, arith, ◌/◌, ◌%◌, ◌+◌, set, get_or, length-set}
use Rattle.bits.specs.steps.Packing.{top_bit}
use Rattle.bits.proofs.laws.ShiftLaws.{sums_kept, sums_all, risen_first, risen_pair, risen_past}
use Rattle.bits.proofs.sparse.take_in_pairs.Goals as goal

pub loop-k-init : goal.loop-k-init
loop-k-init c =
    let kept = sums_kept c.args.summary.now c.kept.result c.args.words.now (c.args.at / 64) c.requires.summed c.kept.ensures in
    let size = length-set (set c.args.words.now (c.args.at / 64) c.insert_bit-moved.result) (c.args.at / 64 + 1) c.shift_up-above.result in
    let size' = length-set c.args.words.now (c.args.at / 64) c.insert_bit-moved.result in
    let moved = risen_pair c.args.words.now c.args.at c.args.words.now (c.args.at / 64) (c.args.at % 64) c.insert_bit-moved.result c.shift_up-above.result false (top_bit (get_or c.args.words.now (c.args.at / 64) 0)) (top_bit (get_or c.args.words.now (c.args.at / 64 + 1) 0)) c.kept.result c.marked-new.result
    (risen_first c.args.words.now c.args.at false c.kept.result (omega (arith, c.requires.place)) kept) (omega (arith, c.requires.place, c.requires.pairs, c.requires.first)) c.requires.first c.insert_bit-moved.ensures c.shift_up-above.ensures
    c.marked-new.ensures.kept (λ ne. c.marked-new.ensures.more (c.has_either.ensures.low ne)) (λ ne. c.marked-new.ensures.more (c.has_either.ensures.high ne)) in
    record {
      risen = risen_past c.args.words.now c.args.at false _ (c.args.at / 64 + 1 + 1) c.next_up-k.result (top_bit (get_or c.args.words.now (c.args.at / 64 + 1) 0)) c.args.summary.now c.marked-new.result moved c.requires.summed
          (λ j ge. c.next_up-k.ensures.none j (omega arith)) (omega (arith, c.next_up-k.ensures.low)) (omega (arith, c.next_up-k.ensures.high, size, size')) (λ on. omega (arith, c.next_up-k.ensures.next on));
      within = omega (arith, c.next_up-k.ensures.high, size, size');
      pairs = c.next_up-k.ensures.pairs (omega (arith, c.requires.first)) (omega (arith, c.requires.pairs, size, size'));
    }

pub loop-k-preserved : goal.loop-k-preserved
loop-k-preserved c =
    let h = c.loop-k.invariant in
    let as_long = h.risen.as_long in
    let size = length-set (set c.loop-k.words c.loop-k.k c.shift_up-moved.result) (c.loop-k.k + 1) c.shift_up-above-in-loop-k.result in
    let size' = length-set c.loop-k.words c.loop-k.k c.shift_up-moved.result in
    let moved = risen_pair c.args.words.now c.args.at c.loop-k.words c.loop-k.k 0 c.shift_up-moved.result c.shift_up-above-in-loop-k.result (top_bit c.loop-k.below) (top_bit (get_or c.loop-k.words c.loop-k.k 0)) (top_bit (get_or c.loop-k.words (c.loop-k.k + 1) 0)) c.loop-k.new c.marked-new-in-loop-k.result
    h.risen (omega (arith, c.loop-k-test.true, h.pairs, c.requires.pairs, as_long)) h.pairs c.shift_up-moved.ensures c.shift_up-above-in-loop-k.ensures
    c.marked-new-in-loop-k.ensures.kept (λ ne. c.marked-new-in-loop-k.ensures.more (c.has_either-in-loop-k.ensures.low ne)) (λ ne. c.marked-new-in-loop-k.ensures.more (c.has_either-in-loop-k.ensures.high ne)) in
    record {
      risen = risen_past c.args.words.now c.args.at false _ (c.loop-k.k + 1 + 1) c.next_up-k-in-loop-k.result (top_bit (get_or c.loop-k.words (c.loop-k.k + 1) 0)) c.args.summary.now c.marked-new-in-loop-k.result moved c.requires.summed
          (λ j ge. c.next_up-k-in-loop-k.ensures.none j (omega arith)) (omega (arith, c.next_up-k-in-loop-k.ensures.low)) (omega (arith, c.next_up-k-in-loop-k.ensures.high, size, size')) (λ on. omega (arith, c.next_up-k-in-loop-k.ensures.next on));
      within = omega (arith, c.next_up-k-in-loop-k.ensures.high, size, size');
      pairs = c.next_up-k-in-loop-k.ensures.pairs (omega (arith, h.pairs)) (omega (arith, c.requires.pairs, as_long, size, size'));
    }

pub returns-clause-summed : goal.returns-clause-summed
returns-clause-summed c = sums_all c.loop-k.new c.loop-k.words c.loop-k.k c.loop-k.invariant.risen.sums (omega (arith, c.loop-k-test.false))
