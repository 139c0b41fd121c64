use Rattle.std.proofs.Common.{◌+◌, ◌<◌, ◌≤◌, [], ◌∷◌, inl, length, sym, ◌∙◌, arith, true≢false}
use Rattle.std.proofs.lemmas.List.Elements.{Contains-append_left}
use Rattle.table.specs.chains.Table.{chain_at}
use Rattle.table.specs.declared.walk.trail.Step.{Step}
use Rattle.questions.specs.steps.Shared.{IsMarkedRule}
use Rattle.questions.proofs.laws.BoxesLaws.{all_below, below_pass, below_take, none_below, only_take, rule_last}
use Rattle.questions.proofs.asked.changes.add_marked.Goals as goal
use Rattle.questions.proofs.asked.changes.add_marked.Goals.{then-is_marked+in_ok-push, else-is_marked}

pub loop-passed-init : goal.loop-passed-init
loop-passed-init c = record {
  kept = λ by h. h;
  below = none_below (IsMarkedRule c.args.table.now.table c.args.marks.now) c.args.place c.args.found.now.items (λ by h. h.0.first);
  only = λ by h. inl h;
}

pub loop-passed-preserved : goal.loop-passed-preserved
loop-passed-preserved c =
    let t = c.args.table.now.table in
    let place = c.args.place in
    let i = c.loop-passed.passed in
    let old = c.loop-passed.found.items in
    let by : Step = record { chain = place; number = i + 1 } in
    let within : i < length (chain_at t place).rules = omega (arith, c.loop-passed-test.true, c.rule_count-passed-end.ensures) in
    let Marked : Step → Type 0 = λ x. IsMarkedRule t c.args.marks.now x in
    elim c.if-is_marked.branch [
      | then-is_marked+in_ok-push w ↦ (
          let one : Marked by = (record { chain = c.requires; first = omega arith; last = omega (arith, within) }, sym c.is_marked.ensures ∙ w.if-is_marked.true) in
          rw (w.found-is, w.in_ok-push.ensures.items) (record {
            kept = λ x h. Contains-append_left old (by ∷ []) x (c.loop-passed.invariant.kept x h);
            below = below_take Marked place i old c.loop-passed.invariant.below;
            only = only_take Marked place i c.args.found.now.items old c.loop-passed.invariant.only one;
          }))
      | else-is_marked w ↦ rw w.found-is (record {
        kept = c.loop-passed.invariant.kept;
        below = below_pass Marked place i old c.loop-passed.invariant.below (λ one. true≢false (sym one.1 ∙ sym c.is_marked.ensures ∙ w.if-is_marked.false));
        only = c.loop-passed.invariant.only;
      })
    ]

pub returns : goal.returns
returns c =
    let t = c.args.table.now.table in
    let Marked : Step → Type 0 = λ x. IsMarkedRule t c.args.marks.now x in
    let le : length (chain_at t c.args.place).rules ≤ c.loop-passed.passed = omega (arith, c.rule_count-passed-end.ensures, c.loop-passed-test.false) in
    record {
      kept = c.loop-passed.invariant.kept;
      added = all_below Marked c.args.place c.loop-passed.passed c.loop-passed.found.items (λ by at h. rule_last t c.args.place c.loop-passed.passed le by at h.0) c.loop-passed.invariant.below;
      only = c.loop-passed.invariant.only;
    }
