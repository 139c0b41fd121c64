use Rattle.std.proofs.Common.{◌∙◌, ◌++◌, ◌∷◌, [], ap, List, ℕ}
use Rattle.bits.proofs.laws.SummaryLaws.{first_kept}
use Rattle.bits.proofs.rows.Rows.with_one_row.Goals as goal

pub invariant_of-result-2 : goal.invariant_of-result-2
invariant_of-result-2 c =
    first_kept _ _ _ _ _ c.in_ok-one.ensures.1 c.in_ok-one.ensures.0 (c.slots.view_is ∙ c.in_ok-slots.ensures) c.in_ok-one.ensures.2
    (c.in_ok-push.ensures.items ∙ ap (λ (ss : List ℕ). ss ++ 0 ∷ []) c.new-summaries.ensures.items)
