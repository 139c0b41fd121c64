use Rattle.std.proofs.Common.{◌≡◌, ◌+◌, ◌<◌, ◌≤◌, false, true, sym, ◌∙◌, ap, arith, true≢false}
use Rattle.std.specs.Option.{option_map}
use Rattle.std.proofs.lemmas.List.{get_or_default}
use Rattle.questions.specs.Ends.{rule_at}
use Rattle.questions.specs.steps.Leading.{unmarked}
use Rattle.questions.proofs.laws.LeadLaws.{AreClosedBelow, closed_all, closed_next, spread_on}
use Rattle.questions.proofs.asked.leading.spread.Goals as goal
use Rattle.questions.proofs.asked.leading.spread.Goals.{then-mark_by, else-mark_by}

pub loop-call-preserved : goal.loop-call-preserved
loop-call-preserved c =
    let t = c.args.subject.now.table.table in
    let own = option_map (rule_at t) c.args.own in
    let i = c.loop-call.call-index in
    let calls = c.calls-calls.result.now in
    let old = c.loop-call.marks.items in
    let new = c.mark_by.new.marks.items in
    let first = c.args.marks.now.items in
    let closed : c.if-mark_by.is_more ≡ false → AreClosedBelow t own new calls (i + 1) = elim c.if-mark_by.branch [
      | then-mark_by w ↦ (λ off. absurd (true≢false (sym w.is_more-is ∙ off)))
      | else-mark_by w ↦ (λ off. closed_next t own old new calls i _ (c.mark_by.ensures.same w.if-mark_by.false) c.loop-call-test.true (get_or_default calls i _ _ c.loop-call-test.true) (c.loop-call.invariant.closed (sym w.is_more-is ∙ off)) (c.mark_by.ensures.closed w.if-mark_by.false))
    ] in
    let less : unmarked new ≤ unmarked first = elim c.if-mark_by.branch [
      | then-mark_by w ↦ (let h = c.mark_by.ensures.fewer w.if-mark_by.true in omega (arith, h, c.loop-call.invariant.less))
      | else-mark_by w ↦ (let h = ap unmarked (c.mark_by.ensures.same w.if-mark_by.false) in omega (arith, h, c.loop-call.invariant.less))
    ] in
    let fewer : c.if-mark_by.is_more ≡ true → unmarked new < unmarked first = elim c.if-mark_by.branch [
      | then-mark_by w ↦ (λ on. (let h = c.mark_by.ensures.fewer w.if-mark_by.true in omega (arith, h, c.loop-call.invariant.less)))
      | else-mark_by w ↦ (λ on. (let h = ap unmarked (c.mark_by.ensures.same w.if-mark_by.false) in let k = c.loop-call.invariant.fewer (sym w.is_more-is ∙ on) in omega (arith, h, k)))
    ] in
    record { more = spread_on t own first old new c.loop-call.invariant.more c.mark_by.ensures.more; less = less; fewer = fewer; closed = closed }

pub returns-clause-closed : goal.returns-clause-closed
returns-clause-closed c =
    let t = c.args.subject.now.table.table in
    let own = option_map (rule_at t) c.args.own in
    λ off. closed_all t own c.loop-call.marks.items c.calls-calls.result.now c.loop-call.call-index c.stands.ensures.sound c.calls-calls.ensures (omega (arith, c.loop-call-test.false)) (c.loop-call.invariant.closed off)
