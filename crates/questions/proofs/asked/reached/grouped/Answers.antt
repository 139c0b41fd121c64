use Rattle.std.proofs.Common.{arith, sym, refl}
use Rattle.questions.proofs.laws.ReachLaws.{listed_next}
use Rattle.questions.proofs.asked.reached.grouped.Goals as goal

pub loop-leaf-preserved : goal.loop-leaf-preserved
loop-leaf-preserved c =
    let h = c.in_ok-add_end.ensures in
    record {
      each = h.each (c.loop-leaf.leaf-index, c.leaf-item.result, omega arith, sym c.leaf-item.is, (refl, refl)) c.loop-leaf.invariant.each;
      listed = listed_next c.args.exact.now c.loop-leaf.leaf-index c.leaf-item.result c.loop-leaf.reached.items c.add_end.new.reached.items (omega arith) c.leaf-item.is c.loop-leaf.invariant.listed h.kept h.added;
      one = h.one c.loop-leaf.invariant.one;
    }
