use Rattle.std.proofs.Common.{◌≡◌, ◌<◌, false, length, get_or, sym, ◌∙◌, arith}
use Rattle.std.proofs.lemmas.List.{get_or_default}
use Rattle.table.specs.declared.walk.trail.Step.{Step}
use Rattle.questions.specs.steps.Candidates.{AddsRules}
use Rattle.questions.specs.steps.Leading.{IsWay}
use Rattle.questions.proofs.laws.BoxesLaws.{all_next, before_next, before_skip}
use Rattle.questions.proofs.laws.WayLaws.{IsWayIn, excluded_of, none_in, open_of, ways_in}
use Rattle.questions.proofs.asked.ways.ways_into.Goals as goal
use Rattle.questions.proofs.asked.ways.ways_into.Goals.{then-not-index+in_ok-add_ways, else-not-index}

pub returns-then-not-none_led : goal.returns-then-not-none_led
returns-then-not-none_led c =
    let led = rw c.as_slice.ensures.value at (c.none_led.ensures.some c.if-not-none_led.true) in
    open_of c.args.subject.now.table.table c.args.step c.in_ok-marks.marks.items c.stands.ensures.sound c.requires c.in_ok-marks.ensures led.0 led.1

pub loop-place-preserved : goal.loop-place-preserved
loop-place-preserved c =
    let t = c.args.subject.now.table.table in
    let marks = c.in_ok-marks.marks.items in
    let place = c.loop-place.place in
    let old = c.loop-place.ways.items in
    let within : place < length marks = omega (arith, c.in_ok-marks.ensures.long, c.loop-place-test.true, c.chain_count-place-end.ensures) in
    let Way : Step → Type 0 = λ x. IsWayIn t marks x in
    let at : get_or marks place false ≡ c.index.result.now = get_or_default marks place false c.index.result.now within ∙ sym c.index.ensures in
    elim c.if-not-index.branch [
      | then-not-index+in_ok-add_ways w ↦ (
          let added : AddsRules (IsWay t marks) place old w.add_ways.new.ways.items = rw w.as_slice-then-not-index.ensures.value at w.in_ok-add_ways.ensures in
          let adds : AddsRules Way place old w.add_ways.new.ways.items = ways_in t marks place old w.add_ways.new.ways.items (at ∙ w.if-not-index.true) added in
          rw w.ways-is (record {
            before = before_next Way place old w.add_ways.new.ways.items adds c.loop-place.invariant.before;
            only = all_next Way place old w.add_ways.new.ways.items adds c.loop-place.invariant.only;
          }))
      | else-not-index w ↦ rw w.ways-is (record {
        before = before_skip Way place old (none_in t marks place (at ∙ w.if-not-index.false)) c.loop-place.invariant.before;
        only = c.loop-place.invariant.only;
      })
    ]

pub returns : goal.returns
returns c =
    excluded_of c.args.subject.now.table.table c.args.step c.in_ok-marks.marks.items c.stands.ensures.sound c.requires c.in_ok-marks.ensures c.loop-place.ways.items c.loop-place.place
    (rw c.as_slice.ensures.value at (c.none_led.ensures.none c.if-not-none_led.false)) (omega (arith, c.chain_count-place-end.ensures, c.loop-place-test.false)) c.loop-place.invariant.before c.loop-place.invariant.only
