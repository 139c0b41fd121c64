use Rattle.std.proofs.Common.{◌+◌, ◌<◌, arith, sym, ◌∙◌, ℕ, length, get_or, refl, ap, subst, true≢false}
use Rattle.std.proofs.lemmas.List.{get_or_default}
use Rattle.rules.specs.rule.Rules.{empty_rule}
use Rattle.table.specs.chains.Table.{chain_at}
use Rattle.questions.specs.Ends.{rule_at}
use Rattle.questions.specs.Scopes.{table_of}
use Rattle.questions.proofs.laws.TrailLaws.{items_next}
use Rattle.rules.specs.rule.Actions.{target_of}
use Rattle.rules.specs.rule.Allows.{matches}
use Rattle.questions.specs.asked.Idle.{ComesBack, IsIdle}
use Rattle.questions.proofs.walking.idle.is_idle.Goals.{else-matches-via-else-matches, else-matches-via-then-matches+else-not-comes_back}
use Rattle.questions.proofs.walking.idle.is_idle.Goals as goal

pub loop-passed-preserved : goal.loop-passed-preserved
loop-passed-preserved c =
    let values = c.args.packet.now.values in
    let rules = (chain_at (table_of c.args.subject.now) c.args.place).rules in
    let within : c.loop-passed.passed < length rules = omega (arith, c.loop-passed-test.true, c.rule_count-passed-end.ensures) in
    let own = get_or rules c.loop-passed.passed empty_rule in
    let At : ℕ → Type 0 = λ k. IsIdle values (get_or rules k empty_rule) in
    let seen = c.in-Some.ensures in
    let here : IsIdle values (rule_at (table_of c.args.subject.now) (record { chain = c.args.place; number = c.loop-passed.passed + 1 })) = elim c.else-matches.branch [
      | else-matches-via-then-matches+else-not-comes_back w ↦ λ _. subst ComesBack (w.target.ensures ∙ ap target_of seen.rule) (w.comes_back.ensures.0 w.if-not-comes_back.false)
      | else-matches-via-else-matches w ↦ λ m. absurd (true≢false (sym m ∙ ap (matches values) (sym seen.rule) ∙ sym c.matches.ensures ∙ w.if-matches.false))
    ] in
    items_next (IsIdle values) rules c.loop-passed.passed own within (sym (get_or_default rules c.loop-passed.passed own empty_rule within)) c.loop-passed.invariant (subst At (omega arith) here)

pub returns : goal.returns
returns c = (λ _ k d lt. c.loop-passed.invariant k d (omega (arith, lt, c.rule_count-passed-end.ensures, c.loop-passed-test.false)), λ _. refl)

pub returns-in_default : goal.returns-in_default
returns-in_default c = absurd (c.in_default.ensures (record { chain = c.requires.place; first = omega arith; last = omega (arith, c.loop-passed-test.true, c.rule_count-passed-end.ensures) }))

pub returns-then-not-comes_back : goal.returns-then-not-comes_back
returns-then-not-comes_back c =
    let values = c.args.packet.now.values in
    let seen = c.in-Some.ensures in
    let rules = (chain_at (table_of c.args.subject.now) c.args.place).rules in
    let At : ℕ → Type 0 = λ k. IsIdle values (get_or rules k empty_rule) in (
      λ off. absurd (true≢false (sym off)),
      λ all.
          let idle = subst At (omega arith) (all c.loop-passed.passed empty_rule (omega (arith, c.loop-passed-test.true, c.rule_count-passed-end.ensures))) in
          let m = ap (matches values) (sym seen.rule) ∙ sym c.matches.ensures ∙ c.if-matches.true in
          absurd (true≢false (sym (c.comes_back.ensures.1 (subst ComesBack (sym (c.target.ensures ∙ ap target_of seen.rule)) (idle m))) ∙ c.if-not-comes_back.true)),
    )
