use Rattle.std.proofs.Common.{◌∙◌, ap, arith}
use Rattle.std.proofs.Math.ListN.{set}
use Rattle.std.proofs.lemmas.List.{length-set}
use Rattle.std.proofs.lemmas.List.Edits.{map_over_more}
use Rattle.table.specs.declared.chain.entry.Entry.{Entry}
use Rattle.table.specs.steps.Kept.{retargeted}
use Rattle.table.proofs.chain.entry.retarget.Goals as goal

pub loop-at-preserved : goal.loop-at-preserved
loop-at-preserved c = record {
  same = ap (λ (e : Entry). set c.loop-at.entries.items c.loop-at.at e) c.retarget.ensures
      ∙ map_over_more (retargeted c.args.key c.args.name.now) c.args.entries.now.items c.loop-at.entries.items c.loop-at.at c.index_mut.result.now
      (omega (arith, c.loop-at-test.true, c.loop-at.auto.at-end, c.len-at-end.ensures)) c.loop-at.invariant.same c.index_mut.ensures.value;
  long = length-set c.loop-at.entries.items c.loop-at.at c.retarget.new.self ∙ c.loop-at.invariant.long;
}
