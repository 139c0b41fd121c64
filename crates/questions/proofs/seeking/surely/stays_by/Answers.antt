use Rattle.std.proofs.Common.{inl, inr, arith, sym, ◌∙◌, ltb-true, true≢false}
use Rattle.std.proofs.lemmas.List.{get_or_default}
use Rattle.questions.proofs.laws.BeforeLaws.{same_step}
use Rattle.questions.proofs.seeking.surely.stays_by.Goals as goal

pub returns-then-not-matches-clause-passed : goal.returns-then-not-matches-clause-passed
returns-then-not-matches-clause-passed c = λ on _.
    let lt = ltb-true c.args.by.number c.index.result.now on in
    let here = get_or_default c.args.before.now.far.items c.args.by.chain 0 c.index.result.now (omega (arith, c.requires.there, c.requires.far)) in
    omega (arith, lt, here, c.index.ensures)

pub returns-then-not-matches-clause-matched : goal.returns-then-not-matches-clause-matched
returns-then-not-matches-clause-matched c = λ _ m. absurd (true≢false (sym m ∙ sym c.matches.ensures ∙ c.if-not-matches.true))

pub returns-then-eq-clause-passed : goal.returns-then-eq-clause-passed
returns-then-eq-clause-passed c = λ _ un. absurd (true≢false (sym c.if-not-matches.false ∙ c.matches.ensures ∙ un))

pub returns-then-eq-clause-matched : goal.returns-then-eq-clause-matched
returns-then-eq-clause-matched c = λ _ _. inl (same_step c.args.by c.args.approach.now.wanted (sym c.eq.ensures ∙ c.if-eq.true))

pub returns-else-eq-clause-passed : goal.returns-else-eq-clause-passed
returns-else-eq-clause-passed c = λ _ un. absurd (true≢false (sym c.if-not-matches.false ∙ c.matches.ensures ∙ un))

pub returns-else-eq-clause-matched : goal.returns-else-eq-clause-matched
returns-else-eq-clause-matched c = λ on _. inr (rw c.target.ensures at (c.leaves_there.ensures on))
