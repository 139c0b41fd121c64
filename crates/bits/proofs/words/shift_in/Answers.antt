use Rattle.std.proofs.Common.{arith, ◌/◌, ◌%◌, get_or}
use Rattle.bits.specs.steps.Packing.{top_bit}
use Rattle.bits.proofs.laws.BitLaws.{carried_first, carried_more, carried_all}
use Rattle.bits.proofs.words.shift_in.Goals as goal

pub returns-then-first-words : goal.returns-then-first-words
returns-then-first-words c =
    carried_all c.args.words.now c.args.at c.args.bit c.args.words.now (c.args.at / 64) (c.args.at % 64) c.args.bit (carried_first c.args.words.now c.args.at c.args.bit c.requires) (omega arith)

pub loop-k-init : goal.loop-k-init
loop-k-init c =
    carried_more c.args.words.now c.args.at c.args.bit c.args.words.now (c.args.at / 64) (c.args.at % 64) c.insert_bit.result c.args.bit (top_bit (get_or c.args.words.now (c.args.at / 64) 0))
    (carried_first c.args.words.now c.args.at c.args.bit c.requires) (omega arith) c.insert_bit.ensures

pub loop-k-preserved : goal.loop-k-preserved
loop-k-preserved c =
    carried_more c.args.words.now c.args.at c.args.bit c.loop-k.words c.loop-k.k 0 c.shift_up.result (top_bit c.loop-k.below) (top_bit (get_or c.loop-k.words c.loop-k.k 0))
    c.loop-k.invariant (omega arith) c.shift_up.ensures

pub returns : goal.returns
returns c = carried_all c.args.words.now c.args.at c.args.bit c.loop-k.words c.loop-k.k 0 (top_bit c.loop-k.below) c.loop-k.invariant (omega arith)
