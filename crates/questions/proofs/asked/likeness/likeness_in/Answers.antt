use Rattle.std.proofs.Common.{inl}
use Rattle.std.proofs.lemmas.Result.{IfOk-weaker}
use Rattle.questions.specs.Scopes.{scope_of, whole_of}
use Rattle.questions.specs.asked.Alike.{IsGivenBy, IsSameIf}
use Rattle.questions.specs.asked.Differing.{IsUnclearIf}
use Rattle.questions.specs.declared.asked.likeness.Likeness.{Likeness}
use Rattle.questions.specs.steps.Compared.{AreWalked, MayDifferIn}
use Rattle.questions.proofs.laws.CompareLaws.{given_in, other_in}
use Rattle.questions.proofs.laws.DifferLaws.{walked_from}
use Rattle.questions.proofs.asked.likeness.likeness_in.Goals as goal

pub returns-then-branch-clause-unclear : goal.returns-then-branch-clause-unclear
returns-then-branch-clause-unclear c = inl (
  c.in_ok-has_packets.ensures.some c.if-branch.true,
  (record { area = c.in_ok-area.area; answers = c.in_ok-answers.answers }, c.in_ok-area.ensures, c.in_ok-answers.ensures, rw c.in_default.is at c.in_ok-found.ensures.steps),
)

pub returns-in_default-clause-same : goal.returns-in_default-clause-same
returns-in_default-clause-same c = λ a p can there own. absurd (c.in_ok-has_packets.ensures.none c.if-branch.false (p, can, there, own.inside))

pub returns-then-all_give-clause-same : goal.returns-then-all_give-clause-same
returns-then-all_give-clause-same c =
    let new = c.args.new.now in
    let hook = c.args.hook in
    let leaf = c.args.leaf.now in
    let found = c.in-Some.found.items in
    let walked : AreWalked (whole_of new) hook (scope_of leaf) found = walked_from new hook leaf (record { area = c.in_ok-area.area; answers = c.in_ok-answers.answers }) found c.in_ok-area.ensures c.in_ok-answers.ensures (rw c.in-Some.is at c.in_ok-found.ensures.leaves) (rw c.in-Some.is at c.in_ok-found.ensures.exact) (rw c.in-Some.is at c.in_ok-found.ensures.decided) in
    given_in new hook leaf found walked (rw c.as_slice.ensures.value at (c.all_give.ensures.all c.if-all_give.true))

pub likeness_unwritten-requires : goal.likeness_unwritten-requires
likeness_unwritten-requires c = rw c.as_slice-in-None.ensures.value (rw (c.in-None.is, c.as_slice-2.ensures.value) at c.in_ok-other_among.ensures)

pub returns-clause-other : goal.returns-clause-other
returns-clause-other c = λ old shown.
    other_in old c.args.new.now c.args.hook c.args.leaf.now _ c.in-Some.found.items c.in-Some-2.shown c.in_ok-area.ensures c.in_ok-answers.ensures shown (rw c.in-Some.is at c.in_ok-found.ensures.exact)
    (rw (c.in-Some-2.is, c.as_slice-2.ensures.value) at c.in_ok-other_among.ensures)

pub returns-in-None-clause-same : goal.returns-in-None-clause-same
returns-in-None-clause-same c =
    let new = c.args.new.now in
    let hook = c.args.hook in
    let leaf = c.args.leaf.now in
    let found = c.in-Some.found.items in
    let walked : AreWalked (whole_of new) hook (scope_of leaf) found = walked_from new hook leaf (record { area = c.in_ok-area.area; answers = c.in_ok-answers.answers }) found c.in_ok-area.ensures c.in_ok-answers.ensures (rw c.in-Some.is at c.in_ok-found.ensures.leaves) (rw c.in-Some.is at c.in_ok-found.ensures.exact) (rw c.in-Some.is at c.in_ok-found.ensures.decided) in
    IfOk-weaker c.likeness_unwritten.result _ (λ (l : Likeness). IsSameIf (IsGivenBy new hook leaf) l) (λ l h. h new (rw c.as_slice-in-None.ensures.value walked)) c.likeness_unwritten.ensures.same

pub returns-in-None-clause-unclear : goal.returns-in-None-clause-unclear
returns-in-None-clause-unclear c =
    let new = c.args.new.now in
    let hook = c.args.hook in
    let leaf = c.args.leaf.now in
    let found = c.in-Some.found.items in
    let walked : AreWalked (whole_of new) hook (scope_of leaf) found = walked_from new hook leaf (record { area = c.in_ok-area.area; answers = c.in_ok-answers.answers }) found c.in_ok-area.ensures c.in_ok-answers.ensures (rw c.in-Some.is at c.in_ok-found.ensures.leaves) (rw c.in-Some.is at c.in_ok-found.ensures.exact) (rw c.in-Some.is at c.in_ok-found.ensures.decided) in
    IfOk-weaker c.likeness_unwritten.result _ (λ (l : Likeness). IsUnclearIf (MayDifferIn (whole_of new) hook c.args.budget leaf) l) (λ l h. h new c.args.budget (rw c.as_slice-in-None.ensures.value walked)) c.likeness_unwritten.ensures.unclear
