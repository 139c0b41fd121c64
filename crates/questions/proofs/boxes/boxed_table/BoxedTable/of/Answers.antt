use Rattle.std.proofs.Common.{◌<◌, length, arith}
use Rattle.questions.proofs.laws.BoxesLaws.{HasBoxes, all_chains, next_chain, pair_more, rules_more}
use Rattle.questions.proofs.boxes.boxed_table.BoxedTable.of.Goals as goal

pub loop-place-preserved : goal.loop-place-preserved
loop-place-preserved c =
    let t = c.args.table.table in
    let within : c.loop-place.place < length t.chains = omega (arith, c.loop-place-test.true, c.chain_count-place-end.ensures, c.loop-place.auto.place-end) in
    record {
      pairs = pair_more HasBoxes t.chains c.loop-place.chains.items c.push.new.self.items c.in_ok-boxes_of_chain.field-0 c.loop-place.place c.in_ok-push.ensures.items c.loop-place.invariant.pairs
          (next_chain t c.loop-place.place c.in_ok-boxes_of_chain.field-0 within c.in_ok-boxes_of_chain.ensures.boxes);
      counted = omega (arith, rules_more t.chains c.loop-place.place within, c.in_ok-boxes_of_chain.ensures.counted, c.loop-place.invariant.counted);
    }

pub invariant_of-result : goal.invariant_of-result
invariant_of-result c = record { boxes = all_chains c.args.table.table.chains c.loop-place.chains.items c.loop-place.place (omega arith) c.loop-place.invariant.pairs; called = c.in_ok-calls.ensures; bounded = c.in_ok-bounds.ensures }
