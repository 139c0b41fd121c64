use Rattle.std.proofs.Common.{◌≡◌, ◌≢◌, inl, rules, sym, ◌∙◌, true≢false}
use Rattle.std.proofs.lemmas.Result.{IfOk-weaker}
use Rattle.questions.specs.Scopes.{table_of, whole_of}
use Rattle.questions.specs.asked.Differing.{IsUnclearIf, MayDiffer, MayDifferOn}
use Rattle.questions.specs.declared.asked.likeness.Likeness.{Likeness}
use Rattle.questions.specs.declared.walking.scope.Scope.{Scope}
use Rattle.questions.proofs.laws.CompareLaws.{unclear_as, are_rules, came_differs, same_always, went_differs}
use Rattle.questions.proofs.asked.verdicts.likeness_at.Goals.{in-Same, in-Unclear}
use Rattle.questions.proofs.asked.verdicts.likeness_at.Goals as goal

pub likeness_of_all-requires : goal.likeness_of_all-requires
likeness_of_all-requires c = rw c.as_slice.ensures.value (are_rules (table_of c.args.old.now) c.requires.went c.args.changes.now.went.items c.requires.first)

pub likeness_of_all-requires-2 : goal.likeness_of_all-requires-2
likeness_of_all-requires-2 c = rw c.as_slice-2.ensures.value (are_rules (table_of c.args.new.now) c.requires.came c.args.changes.now.came.items c.requires.second)

pub returns-then-clear-clause-says : goal.returns-then-clear-clause-says
returns-then-clear-clause-says c =
    let policies : c.policy_at-policy.result ≡ c.policy_at.result = search rules in
    elim c.match-branch-3.branch [
      | in-Same w ↦
          same_always c.args.old.now c.args.new.now c.args.course.hook c.args.changes.now c.requires (λ p there. c.policy_at-policy.ensures.ends p there ∙ policies ∙ sym (c.policy_at.ensures.ends p there))
          (rw (w.in-Same.is, c.as_slice.ensures.value) at c.in_ok-words.ensures.says) (rw (c.in-Same-2.is, c.as_slice-2.ensures.value) at c.in_ok-words-2.ensures.says)
      | in-Unclear w ↦ absurd (true≢false (sym c.if-clear.true ∙ w.clear-is))
    ]

pub returns-then-ne-clause-unclear : goal.returns-then-ne-clause-unclear
returns-then-ne-clause-unclear c =
    let old = c.args.old.now in
    let new = c.args.new.now in
    let hook = c.args.course.hook in
    let budget = c.args.course.budget in
    let start : Scope = record { area = c.in_ok-area.area; answers = c.none-answers.result } in
    let differ : c.policy_at-policy.result ≢ c.policy_at.result = search rules in
    let On : Type 0 = MayDifferOn (whole_of old) (whole_of new) hook budget start in
    let At : Type 0 = MayDiffer (whole_of old) (whole_of new) hook budget in
    IfOk-weaker c.likeness_on.result (λ (l : Likeness). IsUnclearIf On l) (λ (l : Likeness). IsUnclearIf At l)
    (λ l h. unclear_as On At l (λ may. (start, inl (λ p there same. differ (sym (c.policy_at-policy.ensures.ends p there) ∙ same ∙ c.policy_at.ensures.ends p there), c.in_ok-area.ensures.all, c.none-answers.ensures), may)) h) c.likeness_on.ensures.unclear

pub returns-in-Unclear-2-clause-unclear : goal.returns-in-Unclear-2-clause-unclear
returns-in-Unclear-2-clause-unclear c =
    came_differs (whole_of c.args.old.now) (whole_of c.args.new.now) c.args.course.hook c.args.course.budget c.args.changes.now c.requires (rw (c.in-Unclear-2.is, c.as_slice-2.ensures.value) at c.in_ok-words-2.ensures.unclear)

pub returns-else-clear-clause-unclear : goal.returns-else-clear-clause-unclear
returns-else-clear-clause-unclear c =
    elim c.match-branch-3.branch [
      | in-Same w ↦ absurd (true≢false (sym w.clear-is ∙ c.if-clear.false))
      | in-Unclear w ↦ went_differs (whole_of c.args.old.now) (whole_of c.args.new.now) c.args.course.hook c.args.course.budget c.args.changes.now c.requires (rw (w.in-Unclear.is, c.as_slice.ensures.value) at c.in_ok-words.ensures.unclear)
    ]
