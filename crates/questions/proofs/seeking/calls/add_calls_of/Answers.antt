use Rattle.std.proofs.Common.{◌≡◌, ◌+◌, ◌-◌, ◌<◌, [], ◌∷◌, ◌++◌, List, length, refl, sym, ◌∙◌, ap, arith}
use Rattle.std.proofs.lemmas.List.{get_or_default}
use Rattle.std.proofs.lemmas.List.Elements.{All-push}
use Rattle.rules.specs.rule.Actions.{target_of}
use Rattle.rules.specs.rule.Rules.{Rule, empty_rule}
use Rattle.table.specs.chains.Table.{chain_at}
use Rattle.table.specs.declared.walk.trail.Step.{Step}
use Rattle.questions.specs.Ends.{rule_at}
use Rattle.questions.specs.boxes.Calls.{IsCall, place_named}
use Rattle.questions.specs.declared.seeking.calls.Call.{Call}
use Rattle.questions.proofs.laws.WayLaws.{all_called, called_next, not_called, now_called, still_called}
use Rattle.questions.proofs.seeking.calls.add_calls_of.Goals as goal
use Rattle.questions.proofs.seeking.calls.add_calls_of.Goals.{in-Some+in_ok-push, in_default}

pub loop-passed-preserved : goal.loop-passed-preserved
loop-passed-preserved c =
    let t = c.args.table.now.table in
    let place = c.args.place in
    let i = c.loop-passed.passed in
    let old : List Call = c.loop-passed.calls.items in
    let by : Step = record { chain = place; number = i + 1 } in
    let within : i < length (chain_at t place).rules = omega (arith, c.loop-passed-test.true, c.rule_count-passed-end.ensures) in
    let own : Rule = c.rule.result.now in
    let is : own ≡ rule_at t by = c.rule.ensures ∙ get_or_default (chain_at t place).rules (i + 1 - 1) own empty_rule (omega (arith, within)) in
    let named : place_named t.chains (target_of (rule_at t by)) ≡ place_named t.chains c.target.result =
    ap (λ (r : Rule). place_named t.chains (target_of r)) (sym is) ∙ ap (place_named t.chains) (sym c.target.ensures) in
    elim c.match-place_named.branch [
      | in-Some+in_ok-push w ↦ (
          let call : Call = record { to = w.in-Some.to; by = by } in
          rw (w.calls-is, w.in_ok-push.ensures.items) (record {
            kept = λ x h. still_called t old (old ++ call ∷ []) (call ∷ []) x refl (c.loop-passed.invariant.kept x h);
            only = λ h. All-push (IsCall t) old call (c.loop-passed.invariant.only h) (record { there = record { chain = c.requires; first = omega arith; last = omega (arith, within) }; names = named ∙ sym w.in-Some.ensures });
            below = called_next t place i old (old ++ call ∷ []) (λ x h. still_called t old (old ++ call ∷ []) (call ∷ []) x refl h)
                (now_called t old (old ++ call ∷ []) by w.in-Some.to refl (named ∙ sym w.in-Some.ensures)) c.loop-passed.invariant.below;
          }))
      | in_default w ↦ rw w.calls-is (record {
        kept = c.loop-passed.invariant.kept;
        only = c.loop-passed.invariant.only;
        below = called_next t place i old old (λ x h. h) (not_called t old by (named ∙ sym c.place_named.ensures ∙ w.in_default.is)) c.loop-passed.invariant.below;
      })
    ]

pub loop-passed-init : goal.loop-passed-init
loop-passed-init c = record { kept = λ by h. h; only = λ h. h; below = λ by at le to is names. absurd (omega (arith, le, is.first)) }

pub returns : goal.returns
returns c =
    record {
      kept = c.loop-passed.invariant.kept;
      only = c.loop-passed.invariant.only;
      added = all_called c.args.table.now.table c.args.place c.loop-passed.passed c.loop-passed.calls.items (omega (arith, c.rule_count-passed-end.ensures, c.loop-passed-test.false)) c.loop-passed.invariant.below;
    }
