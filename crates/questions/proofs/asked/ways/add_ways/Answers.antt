use Rattle.std.proofs.Common.{◌≡◌, ◌+◌, ◌-◌, ◌<◌, [], ◌∷◌, inl, length, sym, ◌∙◌, arith, true≢false}
use Rattle.std.proofs.lemmas.List.{get_or_default}
use Rattle.std.proofs.lemmas.List.Elements.{Contains-append_left}
use Rattle.rules.specs.rule.Rules.{Rule, empty_rule}
use Rattle.table.specs.chains.Table.{chain_at}
use Rattle.table.specs.declared.walk.trail.Step.{Step}
use Rattle.questions.specs.Ends.{rule_at}
use Rattle.questions.specs.steps.Leading.{IsWay}
use Rattle.questions.proofs.laws.BoxesLaws.{all_below, below_pass, below_take, none_below, only_take}
use Rattle.questions.proofs.laws.WayLaws.{way_first, way_last}
use Rattle.questions.proofs.asked.ways.add_ways.Goals as goal
use Rattle.questions.proofs.asked.ways.add_ways.Goals.{then-names_marked+in_ok-push, else-names_marked}

pub loop-passed-preserved : goal.loop-passed-preserved
loop-passed-preserved c =
    let t = c.args.table.now.table in
    let marks = c.args.marks.now in
    let place = c.args.place in
    let i = c.loop-passed.passed in
    let old = c.loop-passed.ways.items in
    let by : Step = record { chain = place; number = i + 1 } in
    let within : i < length (chain_at t place).rules = omega (arith, c.loop-passed-test.true, c.rule_count-passed-end.ensures) in
    let own : Rule = c.rule.result.now in
    let is : own ≡ rule_at t by = c.rule.ensures ∙ get_or_default (chain_at t place).rules (i + 1 - 1) own empty_rule (omega (arith, within)) in
    let Way : Step → Type 0 = λ x. IsWay t marks x in
    elim c.if-names_marked.branch [
      | then-names_marked+in_ok-push w ↦ (
          let way : IsWay t marks by = record {
            rule = record { chain = c.requires.place; first = omega arith; last = omega (arith, within) };
            names = rw is at (c.names_marked.ensures.0 w.if-names_marked.true);
          } in
          rw (w.ways-is, w.in_ok-push.ensures.items) (record {
            kept = λ x h. Contains-append_left old (by ∷ []) x (c.loop-passed.invariant.kept x h);
            below = below_take Way place i old c.loop-passed.invariant.below;
            only = only_take Way place i c.args.ways.now.items old c.loop-passed.invariant.only way;
          }))
      | else-names_marked w ↦ rw w.ways-is (record {
        kept = c.loop-passed.invariant.kept;
        below = below_pass Way place i old c.loop-passed.invariant.below (λ way. true≢false (sym (c.names_marked.ensures.1 (rw (← is) at way.names)) ∙ w.if-names_marked.false));
        only = c.loop-passed.invariant.only;
      })
    ]

pub loop-passed-init : goal.loop-passed-init
loop-passed-init c = record { kept = λ by h. h; below = none_below (IsWay c.args.table.now.table c.args.marks.now) c.args.place c.args.ways.now.items (way_first c.args.table.now.table c.args.marks.now); only = λ by h. inl h }

pub returns : goal.returns
returns c =
    let t = c.args.table.now.table in
    let marks = c.args.marks.now in
    let place = c.args.place in
    record {
      kept = c.loop-passed.invariant.kept;
      added = all_below (IsWay t marks) place c.loop-passed.passed c.loop-passed.ways.items (way_last t marks place c.loop-passed.passed (omega (arith, c.rule_count-passed-end.ensures, c.loop-passed-test.false))) c.loop-passed.invariant.below;
      only = c.loop-passed.invariant.only;
    }
