use Rattle.std.proofs.Common.{◌≡◌, true≢false, not, [], inl, inr, refl, sym, ap, ◌∙◌, subst, arith, Contains}
use Rattle.std.proofs.lemmas.Bool.{cases_lt}
use Rattle.fields.specs.Packet.{PacketView as Packet}
use Rattle.table.specs.declared.verdict.Verdict.{Verdict}
use Rattle.questions.proofs.laws.GiverLaws.{fails_by_rule, kept_by_rules}
use Rattle.questions.proofs.asked.givers.told_by_rules.Goals as goal
use Rattle.questions.proofs.asked.givers.told_by_rules.Goals.{in-Holds, in-Unclear, then-not-is_forbidden, else-not-is_forbidden}

pub loop-place-init : goal.loop-place-init
loop-place-init c = elim c.if-not-is_forbidden.branch [
  | then-not-is_forbidden w ↦ λ clear. record {
    short = λ has. absurd (true≢false (sym (sym w.clear-is ∙ clear) ∙ ap not (w.is_forbidden-then-not-is_forbidden.ensures.1 has)));
    other = λ policy ends has.
        (let p : Packet = record { hook = c.args.given.now.hook; values = [] } in
        let same : policy ≡ c.policy_at-policy.result = sym (ends p refl) ∙ c.policy_at-policy.ensures.ends p refl in
        let V : Verdict → Type 0 = λ v. Contains c.args.forbidden.now v in
        absurd (true≢false (sym (c.is_forbidden.ensures.1 (subst V same has)) ∙ w.if-not-is_forbidden.true)));
    none = λ step lt giver. absurd (omega (arith, lt));
  }
  | else-not-is_forbidden w ↦ λ clear. absurd (true≢false (sym (sym w.clear-is ∙ clear) ∙ ap not w.if-not-is_forbidden.false))
]

pub returns-in-Fails : goal.returns-in-Fails
returns-in-Fails c =
    let (step, giver, comes) = rw (c.in-Fails.is, c.as_slice.ensures.value) at c.in_ok-told_in_chain.ensures in
    fails_by_rule c.args.given.now c.in_ok-starts.starts.items c.in_ok-starts.ensures c.args.subject.now c.args.forbidden.now c.stands.ensures.sound step c.in-Fails.words c.in-Fails.answers giver comes

pub loop-place-preserved : goal.loop-place-preserved
loop-place-preserved c = elim c.match-branch-3.branch [
  | in-Holds w ↦ λ clear. (
      let before = c.loop-place.invariant (rw w.clear-is at clear) in
      let none = rw (w.in-Holds.is, c.as_slice.ensures.value) at c.in_ok-told_in_chain.ensures in
      record {
        short = before.short;
        other = before.other;
        none = λ step lt giver. elim (cases_lt step.chain c.loop-place.place) [ inl less ↦ before.none step less giver | inr le ↦ none step (omega (arith, lt, le)) giver ];
      })
  | in-Unclear w ↦ λ clear. absurd (true≢false (sym (rw w.clear-is at clear)))
]

pub returns-then-clear : goal.returns-then-clear
returns-then-clear c =
    let all = c.loop-place.invariant c.if-clear.true in
    kept_by_rules c.args.given.now c.in_ok-starts.starts.items c.in_ok-starts.ensures c.args.subject.now c.args.forbidden.now c.stands.ensures.sound c.policy_at-policy.result (λ p there. c.policy_at-policy.ensures.ends p there)
    (all.other c.policy_at-policy.result (λ p there. c.policy_at-policy.ensures.ends p there)) all.short (λ step giver. all.none step (omega (arith, giver.rule.chain, c.loop-place-test.false, c.chain_count-place-end.ensures)) giver)
