use Rattle.std.proofs.Common.{inl, inr, arith}
use Rattle.std.proofs.lemmas.Bool.{cases_eq}
use Rattle.questions.proofs.seeking.surely.are_met.Goals as goal

pub loop-passed-preserved : goal.loop-passed-preserved
loop-passed-preserved c = λ k lt.
    let approach = c.args.approach.now in
    elim (cases_eq k c.loop-passed.passed) [
      | inl e ↦ rw (← e) at (c.is_met.ensures c.if-not-is_met.false)
      | inr ne ↦ c.loop-passed.invariant k (omega (arith, lt, ne))
    ]
