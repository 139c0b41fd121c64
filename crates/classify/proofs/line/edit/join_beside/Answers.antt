use Rattle.std.proofs.Common.{◌≡◌, ◌+◌, ◌-◌, inl, inr, refl, arith, ap, sym, ◌∙◌}
use Rattle.std.specs.List.{remove}
use Rattle.std.proofs.lemmas.Bool.{false≢true}
use Rattle.classify.proofs.line.edit.join_beside.Goals as goal

pub returns-then-is_same_beside-clause-joined : goal.returns-then-is_same_beside-clause-joined
returns-then-is_same_beside-clause-joined c =
    let next : c.args.k ≡ c.args.k - 1 + 1 = omega (arith, c.requires.later) in
    inr (c.remove.ensures.pieces ∙ ap (λ j. remove c.args.line.now.pieces j) next, c.is_same_beside.ensures.0 c.if-is_same_beside.true)

pub returns-else-is_same_beside-clause-joined : goal.returns-else-is_same_beside-clause-joined
returns-else-is_same_beside-clause-joined c = inl (refl, λ rows. false≢true (sym c.if-is_same_beside.false ∙ c.is_same_beside.ensures.1 rows))
