use Rattle.std.proofs.Common.{inl, arith}
use Rattle.questions.proofs.laws.TakerLaws.{added_next, grows_on, grows_same, only_next}
use Rattle.questions.proofs.asked.takers.Takers.add_all.Goals as goal

pub loop-leaf-init : goal.loop-leaf-init
loop-leaf-init c = record { grows = grows_same c.args.self.now; added = λ k d lt. absurd (omega (arith, lt)); only = λ hook by h. inl h }

pub loop-leaf-preserved : goal.loop-leaf-preserved
loop-leaf-preserved c =
    let first = c.args.self.now in
    let old = c.loop-leaf.self in
    let new = c.add.new.self in
    record {
      grows = grows_on first old new c.loop-leaf.invariant.grows c.in_ok-add.ensures.grows;
      added = added_next c.args.hook c.args.found.now c.loop-leaf.leaf-index c.leaf-item.result (omega arith) c.leaf-item.is first old new c.in_ok-add.ensures c.loop-leaf.invariant.added;
      only = only_next c.args.hook c.args.found.now c.loop-leaf.leaf-index c.leaf-item.result (omega arith) c.leaf-item.is first old new c.in_ok-add.ensures c.loop-leaf.invariant.only;
    }
