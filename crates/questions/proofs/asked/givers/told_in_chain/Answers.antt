use Rattle.std.proofs.Common.{◌≡◌, ◌+◌, ◌≤◌, true≢false, ℕ, inl, inr, sym, ◌∙◌, subst, arith, length}
use Rattle.std.proofs.lemmas.Bool.{cases_lt}
use Rattle.table.specs.chains.Table.{chain_at}
use Rattle.table.specs.declared.walk.trail.Step.{Step}
use Rattle.questions.specs.Scopes.{table_of}
use Rattle.questions.specs.steps.Claimed.{NoneComes}
use Rattle.questions.proofs.laws.GiverLaws.{giver_is, same_giver}
use Rattle.questions.proofs.asked.givers.told_in_chain.Goals as goal
use Rattle.questions.proofs.asked.givers.told_in_chain.Goals.{in-Holds, in-Unclear}

pub loop-passed-init : goal.loop-passed-init
loop-passed-init c = λ clear step at le giver. absurd (omega (arith, le, giver.rule.first))

pub loop-passed-preserved-then-not-gives_one : goal.loop-passed-preserved-then-not-gives_one
loop-passed-preserved-then-not-gives_one c = λ clear step at le giver.
    elim (cases_lt c.loop-passed.passed step.number) [
      | inl last ↦ absurd (true≢false (sym (c.gives_one.ensures.1 (same_giver (table_of c.args.subject.now) c.args.forbidden.now step c.args.place c.loop-passed.passed c.rule.result.now at (omega (arith, le, last)) c.rule.ensures giver)) ∙ c.if-not-gives_one.true))
      | inr less ↦ c.loop-passed.invariant clear step at less giver
    ]

pub loop-passed-preserved : goal.loop-passed-preserved
loop-passed-preserved c =
    let s = c.args.subject.now in
    let here : Step = record { chain = c.args.place; number = c.loop-passed.passed + 1 } in
    elim c.match-branch-2.branch [
      | in-Holds w ↦ λ clear step at le giver.
          elim (cases_lt c.loop-passed.passed step.number) [
            | inl last ↦
                (let N : ℕ → ℕ → Type 0 = λ k n. NoneComes s c.args.course.hook c.args.starts.now (record { chain = k; number = n }) in
                let none : NoneComes s c.args.course.hook c.args.starts.now here = rw w.in-Holds.is at c.in_ok-told_by_rule.ensures in
                let A : ℕ → Type 0 = λ n. N c.args.place n in
                let B : ℕ → Type 0 = λ k. N k step.number in
                let same : c.loop-passed.passed + 1 ≡ step.number = omega (arith, le, last) in
                subst B (sym at) (subst A same none))
            | inr less ↦ c.loop-passed.invariant (rw w.clear-is at clear) step at less giver
          ]
      | in-Unclear w ↦ λ clear. absurd (true≢false (sym (rw w.clear-is at clear)))
    ]

pub returns-in-Fails : goal.returns-in-Fails
returns-in-Fails c =
    let here : Step = record { chain = c.args.place; number = c.loop-passed.passed + 1 } in (
      here,
      giver_is (table_of c.args.subject.now) c.args.forbidden.now c.args.place c.loop-passed.passed c.rule.result.now c.requires (omega (arith, c.loop-passed-test.true, c.rule_count-passed-end.ensures)) c.rule.ensures (c.gives_one.ensures.0 c.if-not-gives_one.false),
      rw c.in-Fails.is at c.in_ok-told_by_rule.ensures,
    )

pub returns-then-clear : goal.returns-then-clear
returns-then-clear c = λ step at giver.
    (let L : ℕ → Type 0 = λ k. step.number ≤ length (chain_at (table_of c.args.subject.now) k).rules in
    c.loop-passed.invariant c.if-clear.true step at (omega (arith, subst L at giver.rule.last, c.loop-passed-test.false, c.rule_count-passed-end.ensures)) giver)
