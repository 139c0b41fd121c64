use Rattle.std.proofs.Common.{List, inl, subst}
use Rattle.questions.specs.Foreign.{Agrees}
use Rattle.questions.specs.declared.foreign.answers.Answer.{Answer}
use Rattle.questions.proofs.laws.NecessaryLaws.{given_agrees}
use Rattle.questions.proofs.asked.necessary.suffice_without.Goals as goal

pub returns-then-branch-clause-no : goal.returns-then-branch-clause-no
returns-then-branch-clause-no c = λ _.
    let (a, agrees, off) = c.in_ok-is_off.ensures c.if-branch.true in
    let given = c.in_ok-_is_new.ensures in
    inl (a, subst (λ (l : List Answer). Agrees a l) c.in_ok-turned.ensures (given_agrees a _ _ c.in_ok-_is_new._is_new _ _ given agrees), off)
