use Rattle.std.proofs.Common.{◌≡◌, ◌<◌, List, length, get_or, ap, ◌∙◌, arith}
use Rattle.fields.specs.numbers.Spans.{SpanSet}
use Rattle.questions.specs.declared.walking.scope.Scope.{Scope}
use Rattle.questions.proofs.laws.GiverLaws.{starts_all, starts_next}
use Rattle.questions.proofs.asked.givers.starts_of.Goals as goal

pub loop-area-init : goal.loop-area-init
loop-area-init c = record { long = ap (λ (ss : List Scope). length ss) c.new-starts.ensures.items; each = λ k box d lt. absurd (omega (arith, lt)) }

pub loop-area-preserved : goal.loop-area-preserved
loop-area-preserved c =
    let given = c.args.given.now in
    let i = c.loop-area.area-index in
    let box : List SpanSet = c.area-item.result in
    let lt : i < length given.boxes.items = omega (arith, c.loop-area-test.true, ap (λ (bs : List (List SpanSet)). length bs) c.as_slice-area-items.ensures.value) in
    let at : box ≡ get_or given.boxes.items i box = c.area-item.is ∙ ap (λ (bs : List (List SpanSet)). get_or bs i box) c.as_slice-area-items.ensures.value in
    starts_next given i box c.loop-area.starts.items c.push.new.self.items c.in_ok-start_of.field-0 lt at c.in_ok-push.ensures.items c.loop-area.invariant.long c.loop-area.invariant.each c.in_ok-start_of.ensures

pub returns : goal.returns
returns c =
    starts_all c.args.given.now c.loop-area.area-index c.loop-area.starts.items
    (omega (arith, c.loop-area-test.false, c.loop-area.auto.area-index-end, ap (λ (bs : List (List SpanSet)). length bs) c.as_slice-area-items.ensures.value)) c.loop-area.invariant.long c.loop-area.invariant.each
