use Rattle.std.proofs.Common.{false, arith, ◌/◌, ◌%◌, ◌+◌, ◌<◌, length, ap, not, get_or, length-set}
use Rattle.std.proofs.lemmas.Bool.{ne_eqb}
use Rattle.bits.specs.steps.Packing.{top_bit}
use Rattle.bits.proofs.laws.ShiftLaws.{sums_kept, sums_all, risen_first, risen_more, risen_past}
use Rattle.bits.proofs.laws.BitLaws.{carried_first, carried_all}
use Rattle.bits.proofs.sparse.insert_in_marked.Goals as goal

pub returns-then-first-words-clause-taken : goal.returns-then-first-words-clause-taken
returns-then-first-words-clause-taken c =
    (false, carried_all c.args.words.now c.args.at false c.args.words.now (c.args.at / 64) (c.args.at % 64) false (carried_first c.args.words.now c.args.at false c.requires.place) (omega arith))

pub loop-k-init : goal.loop-k-init
loop-k-init c =
    let ws = c.args.words.now in
    let first = c.args.at / 64 in
    let lt : c.args.at / 64 < length c.args.words.now = omega (arith, c.if-first-words.false) in
    let carry = top_bit (get_or c.args.words.now (c.args.at / 64) 0) in
    let kept = sums_kept c.args.summary.now c.kept.result c.args.words.now (c.args.at / 64) c.requires.summed c.kept.ensures in
    let moved = risen_more c.args.words.now c.args.at false c.args.words.now (c.args.at / 64) (c.args.at % 64) c.insert_bit-moved.result false (top_bit (get_or c.args.words.now (c.args.at / 64) 0)) c.kept.result c.marked-new.result
    (risen_first c.args.words.now c.args.at false c.kept.result c.requires.place kept) lt c.insert_bit-moved.ensures c.marked-new.ensures.kept (λ ne. c.marked-new.ensures.more (ap not (ne_eqb _ 0 ne))) in
    let high = length-set c.args.words.now (c.args.at / 64) c.insert_bit-moved.result in
    record {
      risen = risen_past c.args.words.now c.args.at false _ (c.args.at / 64 + 1) c.next_up-k.result (top_bit (get_or c.args.words.now (c.args.at / 64) 0)) c.args.summary.now c.marked-new.result moved c.requires.summed c.next_up-k.ensures.none c.next_up-k.ensures.low
          (omega (arith, c.next_up-k.ensures.high, high)) c.next_up-k.ensures.next;
      within = omega (arith, c.next_up-k.ensures.high, high);
    }

pub loop-k-preserved : goal.loop-k-preserved
loop-k-preserved c =
    let k = c.loop-k.k in
    let h = c.loop-k.invariant.risen in
    let carry = top_bit (get_or c.loop-k.words c.loop-k.k 0) in
    let moved = risen_more c.args.words.now c.args.at false c.loop-k.words c.loop-k.k 0 c.shift_up-moved.result (top_bit c.loop-k.below) (top_bit (get_or c.loop-k.words c.loop-k.k 0)) c.loop-k.new c.marked-new-in-loop-k.result h
    (omega (arith, c.loop-k-test.true)) c.shift_up-moved.ensures c.marked-new-in-loop-k.ensures.kept (λ ne. c.marked-new-in-loop-k.ensures.more (ap not (ne_eqb _ 0 ne))) in
    let high = length-set c.loop-k.words c.loop-k.k c.shift_up-moved.result in
    record {
      risen = risen_past c.args.words.now c.args.at false _ (c.loop-k.k + 1) c.next_up-k-in-loop-k.result (top_bit (get_or c.loop-k.words c.loop-k.k 0)) c.args.summary.now c.marked-new-in-loop-k.result moved c.requires.summed c.next_up-k-in-loop-k.ensures.none
          c.next_up-k-in-loop-k.ensures.low (omega (arith, c.next_up-k-in-loop-k.ensures.high, high)) c.next_up-k-in-loop-k.ensures.next;
      within = omega (arith, c.next_up-k-in-loop-k.ensures.high, high);
    }

pub returns-clause-taken : goal.returns-clause-taken
returns-clause-taken c = (top_bit c.loop-k.below, carried_all c.args.words.now c.args.at false c.loop-k.words c.loop-k.k 0 (top_bit c.loop-k.below) c.loop-k.invariant.risen.carried (omega (arith, c.loop-k-test.false)))

pub returns-clause-summed : goal.returns-clause-summed
returns-clause-summed c = sums_all c.loop-k.new c.loop-k.words c.loop-k.k c.loop-k.invariant.risen.sums (omega (arith, c.loop-k-test.false))
