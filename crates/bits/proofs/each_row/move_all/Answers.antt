use Rattle.std.proofs.Common.{◌≡◌, ◌<◌, arith, length, rules, sym, vec_len, subst, ℕ}
use Rattle.std.proofs.lemmas.List.{get_or_read}
use Rattle.bits.specs.steps.Packing.{all_bits}
use Rattle.bits.specs.steps.Held.{words_in, Makes}
use Rattle.bits.specs.steps.Summaries.{IsSummaryOf}
use Rattle.bits.proofs.laws.SlotWordsLaws.{slot_changed}
use Rattle.bits.proofs.each_row.move_all.Goals as goal

pub loop-slot-preserved : goal.loop-slot-preserved
loop-slot-preserved c =
    let n : ℕ = length c.args.summaries.now.items in
    let count : vec_len c.args.summaries.now ≡ length c.args.summaries.now.items = search rules in
    let lt : c.loop-slot.slot < n = omega (arith, count, c.loop-slot-test.true, c.len-slot-end.ensures) in
    slot_changed (Makes c.args.how) n c.loop-slot.slot c.move_bits.new.summary c.args.words.now c.loop-slot.words c.move_bits.new.self c.loop-slot.summaries.items
    c.loop-slot.invariant c.requires.counted lt c.move_bits.ensures.made c.move_bits.ensures.summed

pub move_bits-requires-clause-summed : goal.move_bits-requires-clause-summed
move_bits-requires-clause-summed c =
    let count : vec_len c.args.summaries.now ≡ length c.args.summaries.now.items = search rules in
    let lt : c.loop-slot.slot < length c.args.summaries.now.items = omega (arith, count, c.loop-slot-test.true, c.len-slot-end.ensures) in
    let read = get_or_read c.loop-slot.summaries.items c.loop-slot.slot c.index.result.now (omega (arith, lt, c.loop-slot.invariant.counted)) c.index.ensures 0 in
    let P : ℕ → Type 0 = λ w. IsSummaryOf c.index.result.now (all_bits (words_in w c.loop-slot.words.words c.loop-slot.slot)) in
    let Q : ℕ → Type 0 = λ x. IsSummaryOf x (all_bits (words_in c.args.words.now.width c.loop-slot.words.words c.loop-slot.slot)) in
    subst P (sym c.loop-slot.invariant.as_many.width) (subst Q (sym read) (c.loop-slot.invariant.summed c.loop-slot.slot lt))
