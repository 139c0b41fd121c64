use Rattle.std.proofs.Common.{length, refl}
use Rattle.bits.proofs.laws.SlotWordsLaws.{none_written, slot_written}
use Rattle.bits.proofs.each_row.write_each.Goals as goal

pub loop-k-init : goal.loop-k-init
loop-k-init c = none_written c.args.at c.args.bit (length c.args.summaries.now) c.args.slots.now c.args.words.now c.args.summaries.now refl c.requires.summed

pub loop-k-preserved : goal.loop-k-preserved
loop-k-preserved c =
    slot_written c.args.at c.args.bit (length c.args.summaries.now) c.loop-k.k c.marked.result c.args.slots.now c.args.words.now c.loop-k.words c.write.new.self c.loop-k.summaries
    c.loop-k.invariant c.requires.counted c.loop-k-test.true c.requires.below c.requires.apart c.write.ensures c.marked.ensures.kept c.marked.ensures.more
