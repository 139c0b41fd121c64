use Rattle.std.proofs.Common.{arith, ◌/◌, ◌+◌}
use Rattle.bits.proofs.laws.ShiftLaws.{sums_kept, sums_all, fallen_pair_first, fallen_pair, fallen_past, rest_hides_none}
use Rattle.bits.proofs.sparse.give_up_pairs.Goals as goal

pub next_down-k-requires-clause-summed : goal.next_down-k-requires-clause-summed
next_down-k-requires-clause-summed c =
    let moved = fallen_pair_first c.args.words.now c.args.at c.remove_bit-moved.result c.shift_down-above.result c.word_at.result c.kept.result c.marked-new.result c.requires.place c.requires.pairs c.requires.first
    (sums_kept c.args.summary.now c.kept.result c.args.words.now (c.args.at / 64) c.requires.summed c.kept.ensures) c.remove_bit-moved.ensures c.shift_down-above.ensures c.word_at.ensures
    c.marked-new.ensures.kept (λ ne. c.marked-new.ensures.more (c.has_either.ensures.low ne)) (λ ne. c.marked-new.ensures.more (c.has_either.ensures.high ne)) in
    λ k ge. rest_hides_none c.args.words.now _ c.args.summary.now (c.args.at / 64 + 1 + 1) c.requires.summed moved.rest k (omega (arith, ge))

pub loop-k-init : goal.loop-k-init
loop-k-init c =
    let moved = fallen_pair_first c.args.words.now c.args.at c.remove_bit-moved.result c.shift_down-above.result c.word_at.result c.kept.result c.marked-new.result c.requires.place c.requires.pairs c.requires.first
    (sums_kept c.args.summary.now c.kept.result c.args.words.now (c.args.at / 64) c.requires.summed c.kept.ensures) c.remove_bit-moved.ensures c.shift_down-above.ensures c.word_at.ensures
    c.marked-new.ensures.kept (λ ne. c.marked-new.ensures.more (c.has_either.ensures.low ne)) (λ ne. c.marked-new.ensures.more (c.has_either.ensures.high ne)) in
    record {
      fallen = fallen_past c.args.words.now c.args.at _ (c.args.at / 64 + 1 + 1) c.next_down-k.result c.marked-new.result moved (λ k ge. c.next_down-k.ensures.blank k (omega (arith, ge))) (omega (arith, c.next_down-k.ensures.low)) c.next_down-k.ensures.high;
      within = c.next_down-k.ensures.high;
      pairs = c.next_down-k.ensures.pairs (omega (arith, c.requires.first)) (omega (arith, moved.as_long, c.requires.pairs));
    }

pub next_down-k-requires-in-loop-k-clause-summed : goal.next_down-k-requires-in-loop-k-clause-summed
next_down-k-requires-in-loop-k-clause-summed c =
    let h = c.loop-k.invariant in
    let as_long = h.fallen.as_long in
    let moved = fallen_pair c.args.words.now c.args.at c.loop-k.words c.loop-k.k c.shift_down-moved.result c.shift_down-above-in-loop-k.result c.word_at-in-loop-k.result c.loop-k.new c.marked-new-in-loop-k.result h.fallen
    (omega (arith, c.loop-k-test.true, h.pairs, c.requires.pairs, as_long)) h.pairs c.shift_down-moved.ensures c.shift_down-above-in-loop-k.ensures c.word_at-in-loop-k.ensures
    c.marked-new-in-loop-k.ensures.kept (λ ne. c.marked-new-in-loop-k.ensures.more (c.has_either-in-loop-k.ensures.low ne)) (λ ne. c.marked-new-in-loop-k.ensures.more (c.has_either-in-loop-k.ensures.high ne)) in
    λ k ge. rest_hides_none c.args.words.now _ c.args.summary.now (c.loop-k.k + 1 + 1) c.requires.summed moved.rest k (omega (arith, ge))

pub loop-k-preserved : goal.loop-k-preserved
loop-k-preserved c =
    let h = c.loop-k.invariant in
    let as_long = h.fallen.as_long in
    let moved = fallen_pair c.args.words.now c.args.at c.loop-k.words c.loop-k.k c.shift_down-moved.result c.shift_down-above-in-loop-k.result c.word_at-in-loop-k.result c.loop-k.new c.marked-new-in-loop-k.result h.fallen
    (omega (arith, c.loop-k-test.true, h.pairs, c.requires.pairs, as_long)) h.pairs c.shift_down-moved.ensures c.shift_down-above-in-loop-k.ensures c.word_at-in-loop-k.ensures
    c.marked-new-in-loop-k.ensures.kept (λ ne. c.marked-new-in-loop-k.ensures.more (c.has_either-in-loop-k.ensures.low ne)) (λ ne. c.marked-new-in-loop-k.ensures.more (c.has_either-in-loop-k.ensures.high ne)) in
    record {
      fallen = fallen_past c.args.words.now c.args.at _ (c.loop-k.k + 1 + 1) c.next_down-k-in-loop-k.result c.marked-new-in-loop-k.result moved (λ k ge. c.next_down-k-in-loop-k.ensures.blank k (omega (arith, ge))) (omega (arith, c.next_down-k-in-loop-k.ensures.low)) c.next_down-k-in-loop-k.ensures.high;
      within = c.next_down-k-in-loop-k.ensures.high;
      pairs = c.next_down-k-in-loop-k.ensures.pairs (omega (arith, h.pairs)) (omega (arith, moved.as_long, c.requires.pairs));
    }

pub returns-clause-summed : goal.returns-clause-summed
returns-clause-summed c = sums_all c.loop-k.new c.loop-k.words c.loop-k.k c.loop-k.invariant.fallen.sums (omega (arith, c.loop-k-test.false))
