use Rattle.std.proofs.Common.{ℕ, ◌∙◌, sym, ap, arith, get_or, inl, inr}
use Rattle.std.proofs.lemmas.Bool.{cases_eq}
use Rattle.table.specs.steps.StoredChains.{ends}
use Rattle.table.proofs.laws.chains.CountLaws.{end_at}
use Rattle.table.proofs.chain.edges.place_of.Goals as goal

pub loop-place-preserved : goal.loop-place-preserved
loop-place-preserved c k lt q =
    elim (cases_eq k c.loop-place.place) [
      | inl same ↦ c.if-edges-place.false (sym (end_at c.args.edges.now c.loop-place.place _ c.loop-place-test.true) ∙ ap (λ (n : ℕ). get_or (ends c.args.edges.now) n 0) (sym same) ∙ q)
      | inr other ↦ c.loop-place.invariant k (omega (arith, lt, other)) q
    ]
