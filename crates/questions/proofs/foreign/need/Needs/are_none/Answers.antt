use Rattle.std.proofs.Common.{List, sym, ◌∙◌, subst, true≢false}
use Rattle.questions.specs.Foreign.{AreWithoutNeeds}
use Rattle.questions.specs.declared.foreign.need.Need.{Need}
use Rattle.questions.proofs.foreign.need.Needs.are_none.Goals as goal

pub returns-clause-none : goal.returns-clause-none
returns-clause-none c = λ is.
    let None : List (List (List Need)) → Type 0 = λ needs. AreWithoutNeeds needs in
    subst None c.self.view_is (c.self.invariant.0 is)

pub returns-clause-some : goal.returns-clause-some
returns-clause-some c = λ off none.
    let None : List (List (List Need)) → Type 0 = λ needs. AreWithoutNeeds needs in
    true≢false (sym (c.self.invariant.1 (subst None (sym c.self.view_is) none)) ∙ off)
