use Rattle.std.proofs.Common.{inl, inr, arith}
use Rattle.std.proofs.lemmas.Bool.{cases_eq}
use Rattle.questions.proofs.seeking.surely.are_all_met.Goals as goal

pub loop-place-preserved : goal.loop-place-preserved
loop-place-preserved c = λ k lt.
    let approach = c.args.approach.now in
    elim (cases_eq k c.loop-place.place) [
      | inl e ↦ rw (← e) at (c.are_met.ensures c.if-not-are_met.false)
      | inr ne ↦ c.loop-place.invariant k (omega (arith, lt, ne))
    ]
