use Rattle.std.proofs.Common.{inl, All}
use Rattle.std.proofs.lemmas.Result.{IfOk-weaker}
use Rattle.questions.specs.Scopes.{whole_of}
use Rattle.questions.specs.asked.Alike.{IsGivenBy, IsSameOn, SaysIf}
use Rattle.questions.specs.asked.Differing.{IsUnclearIf, MayDifferOn}
use Rattle.questions.specs.declared.asked.likeness.Likeness.{Likeness}
use Rattle.questions.specs.declared.foreign.subject.Subject.{Subject}
use Rattle.questions.specs.steps.Compared.{MayDifferAmong}
use Rattle.questions.proofs.laws.CompareLaws.{given_all, said_as, same_on, unclear_as}
use Rattle.questions.proofs.laws.DifferLaws.{may_on}
use Rattle.questions.proofs.asked.likeness.likeness_on.Goals as goal

pub returns-in_default-clause-unclear : goal.returns-in_default-clause-unclear
returns-in_default-clause-unclear c = inl (rw c.in_default.is at c.in_ok-found.ensures.steps)

pub returns-clause-says : goal.returns-clause-says
returns-clause-says c =
    let old = c.args.old.now in
    let new = c.args.new.now in
    let hook = c.args.course.hook in
    let found = c.in-Some.found.items in
    let given : All (IsGivenBy old hook) found = given_all old hook c.args.start found (rw c.in-Some.is at c.in_ok-found.ensures.exact) in
    let cover = rw c.in-Some.is at c.in_ok-found.ensures.leaves in
    IfOk-weaker c.likeness_among.result (λ (l : Likeness). (s : Subject) → All (IsGivenBy s hook) found → SaysIf (All (IsGivenBy new hook) found) s new hook l) (λ (l : Likeness). SaysIf (IsSameOn old new hook c.args.start) old new hook l)
    (λ l h. said_as (All (IsGivenBy new hook) found) (IsSameOn old new hook c.args.start) old new hook l (same_on old new hook c.args.start found cover) (h old given)) (rw c.as_slice.ensures.value at c.likeness_among.ensures.says)

pub returns-clause-unclear : goal.returns-clause-unclear
returns-clause-unclear c =
    let old = c.args.old.now in
    let new = c.args.new.now in
    let hook = c.args.course.hook in
    let budget = c.args.course.budget in
    let found = c.in-Some.found.items in
    let Among : Type 0 = MayDifferAmong (whole_of new) hook budget found in
    let On : Type 0 = MayDifferOn (whole_of old) (whole_of new) hook budget c.args.start in
    IfOk-weaker c.likeness_among.result (λ (l : Likeness). IsUnclearIf Among l) (λ (l : Likeness). IsUnclearIf On l)
    (λ l h. unclear_as Among On l (may_on old new hook c.args.start found (rw c.in-Some.is at c.in_ok-found.ensures.leaves) (rw c.in-Some.is at c.in_ok-found.ensures.exact) budget) h) (rw c.as_slice.ensures.value at c.likeness_among.ensures.unclear)
