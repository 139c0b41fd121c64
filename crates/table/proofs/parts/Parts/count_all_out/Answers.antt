use Rattle.std.proofs.Common.{ap, arith, length, Option}
use Rattle.std.proofs.Common.{unwrap_or}
use Rattle.table.specs.steps.Kept.{blank}
use Rattle.table.specs.steps.StoredChains.{StoredChain}
use Rattle.table.proofs.laws.edits.EditLaws.{entry_now, next_there, next_counted, recounted_on}
use Rattle.table.proofs.parts.Parts.count_all_out.Goals as goal

pub count_out-requires : goal.count_out-requires
count_out-requires c =
    let slots = c.args.self.now.chains.slots in
    let order = c.args.self.now.order.items in
    let own = entry_now slots c.loop-at.chains.slots c.args.key c.loop-at.at c.index-in-loop-at.result.now c.entry.result.now c.loop-at.invariant.same c.index-in-loop-at.ensures c.entry.ensures in
    next_there c.args.self.now.policies slots c.loop-at.chains.slots order c.args.key c.loop-at.at c.entry.result.now c.key-link.result c.requires.kept c.requires.key c.loop-at.invariant.same
    (omega (arith, c.loop-at-test.true, c.len-at-end.ensures, ap (λ (o : Option StoredChain). length (unwrap_or o blank).entries) c.index.ensures)) own c.key-link.ensures c.loop-at.invariant.counted

pub loop-at-preserved : goal.loop-at-preserved
loop-at-preserved c =
    let slots = c.args.self.now.chains.slots in
    let own = entry_now slots c.loop-at.chains.slots c.args.key c.loop-at.at c.index-in-loop-at.result.now c.entry.result.now c.loop-at.invariant.same c.index-in-loop-at.ensures c.entry.ensures in
    record {
      same = recounted_on slots c.loop-at.chains.slots c.count_out.new.chains.slots c.loop-at.invariant.same c.count_out.ensures.same;
      counted = next_counted slots c.loop-at.chains.slots c.count_out.new.chains.slots c.args.key c.loop-at.at c.entry.result.now c.key-link.result
          (omega (arith, c.loop-at-test.true, c.len-at-end.ensures, ap (λ (o : Option StoredChain). length (unwrap_or o blank).entries) c.index.ensures)) own c.key-link.ensures c.loop-at.invariant.counted c.count_out.ensures.counted;
    }
