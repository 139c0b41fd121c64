use Rattle.std.proofs.Common.{◌≡◌, ◌+◌, suc, refl, inl, inr, arith, ap, sym, ◌∙◌}
use Rattle.std.specs.List.{remove}
use Rattle.std.proofs.lemmas.Bool.{false≢true}
use Rattle.classify.specs.steps.Edits.{row_of}
use Rattle.classify.proofs.line.edit.join.Goals as goal

pub returns-then-is_same_after-clause-joined : goal.returns-then-is_same_after-clause-joined
returns-then-is_same_after-clause-joined c =
    let next : c.args.k + 1 ≡ suc c.args.k = omega arith in
    inr (
      omega arith,
      c.is_same_after.ensures.0 c.if-is_same_after.true ∙ ap (λ j. row_of c.args.line.now.pieces j) next,
      c.remove.ensures.pieces ∙ ap (λ j. remove c.args.line.now.pieces j) next,
    )

pub returns-else-is_same_after-clause-joined : goal.returns-else-is_same_after-clause-joined
returns-else-is_same_after-clause-joined c =
    let next : c.args.k + 1 ≡ suc c.args.k = omega arith in
    inl (refl, λ _ _ rows. absurd (false≢true (sym c.if-is_same_after.false ∙ c.is_same_after.ensures.1 (rows ∙ sym (ap (λ j. row_of c.args.line.now.pieces j) next)))))
