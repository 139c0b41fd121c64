use Rattle.std.proofs.Common.{◌≡◌, [], ◌++◌, ℕ, List, Vec, Global, Contains, None, ◌∷◌, ap, inl, inr, refl, slice_get, subst, sym, ◌∙◌, true≢false}
use Rattle.std.proofs.lemmas.Option.{get_or_from_slice_get, slice_get_within}
use Rattle.std.proofs.lemmas.Result.{IfOk-weaker}
use Rattle.questions.specs.Foreign.{needs_at}
use Rattle.questions.specs.Scopes.{table_of}
use Rattle.questions.specs.asked.Idle.{IsIdleJump, IsSpared}
use Rattle.questions.specs.declared.foreign.need.Need.{Need}
use Rattle.questions.specs.steps.Ending.{AreIdleMarks}
use Rattle.questions.specs.steps.Waiting.{rule_ahead}
use Rattle.questions.proofs.laws.BranchLaws.{rule_here}
use Rattle.questions.proofs.laws.IdleLaws.{asks_first}
use Rattle.questions.proofs.laws.RemainLaws.{never_both}
use Rattle.questions.proofs.walking.idle.spared_at.Goals as goal

-- a list without a first element is empty
nothing_first : (needs : List Need) → slice_get needs 0 ≡ None → needs ≡ []
nothing_first [] e = refl
nothing_first (n ∷ ns) e = cc e

pub returns-in_default : goal.returns-in_default
returns-in_default c = λ values are.
    let needs : needs_at c.args.subject.now.needs.now c.args.at.chain c.args.at.passed ≡ [] = sym c.at-needs.ensures ∙ nothing_first c.at-needs.result.now (sym c.in_default.ensures.value) in
    inl (c.new.ensures.items ∙ sym needs, λ _. needs)

pub returns-then-is_idle_jump : goal.returns-then-is_idle_jump
returns-then-is_idle_jump c =
    let t = table_of c.args.subject.now in
    let needs = needs_at c.args.subject.now.needs.now c.args.at.chain c.args.at.passed in
    let first = c.in-Some.first.now in
    let is_first = sym c.in-Some.ensures.value in
    let there : Contains c.at-needs.result.now first = (0, slice_get_within c.at-needs.result.now 0 first is_first, get_or_from_slice_get c.at-needs.result.now 0 first first is_first) in
    IfOk-weaker c.unmeetable.result _
    (λ (both : Vec Need Global). (values : List ℕ) → AreIdleMarks t values c.args.marks.now → IsSpared t values (rule_ahead t c.args.at) needs both.items)
    (λ both is values are.
    let idle : IsIdleJump t values (rule_ahead t c.args.at) = subst (IsIdleJump t values) (rule_here t c.args.at c.rule-rule.result.now c.requires.passed c.rule-rule.ensures) ((c.is_idle_jump.ensures values are).0 c.if-is_idle_jump.true) in
    rw is (inr (idle, (λ a. never_both a first), λ condition. asks_first needs first condition (subst (λ (ns : List Need). Contains ns first) c.at-needs.ensures there)))) c.unmeetable.ensures

pub returns : goal.returns
returns c = λ values are.
    let t = table_of c.args.subject.now in
    inl (
      c.in_ok-extend_from_slice.ensures.items ∙ ap (λ (ns : List Need). ns ++ c.at-needs.result.now) c.new-same.ensures.items ∙ c.at-needs.ensures,
      λ idle. absurd (true≢false (sym ((c.is_idle_jump.ensures values are).1 (subst (IsIdleJump t values) (sym (rule_here t c.args.at c.rule-rule.result.now c.requires.passed c.rule-rule.ensures)) idle)) ∙ c.if-is_idle_jump.false)),
    )
