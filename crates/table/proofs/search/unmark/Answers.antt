use Rattle.std.proofs.Common.{ℕ, List, get_or, ap, arith}
use Rattle.table.proofs.laws.SearchLaws.{left_within, left_next}
use Rattle.table.proofs.search.unmark.Goals as goal

pub index_mut-requires : goal.index_mut-requires
index_mut-requires c =
    omega (
      arith,
      c.loop-at.seen.ok,
      left_within c.args.order.now.items c.loop-at.seen.items c.args.reached.now.items c.loop-at.at (get_or c.deref.result.now c.loop-at.at 0) c.loop-at.invariant (omega arith)
          (ap (λ (xs : List ℕ). get_or xs c.loop-at.at 0) c.deref.ensures.0),
    )

pub loop-at-preserved : goal.loop-at-preserved
loop-at-preserved c =
    left_next c.args.order.now.items c.loop-at.seen.items c.args.reached.now.items c.loop-at.at (get_or c.deref.result.now c.loop-at.at 0) c.loop-at.invariant (omega arith)
    (ap (λ (xs : List ℕ). get_or xs c.loop-at.at 0) c.deref.ensures.0)
