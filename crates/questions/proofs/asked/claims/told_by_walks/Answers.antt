use Rattle.std.proofs.Common.{◌≡◌, inl, inr, ◌<◌, true≢false, List, length, get_or, sym, ◌∙◌, ap, arith}
use Rattle.fields.specs.numbers.Spans.{SpanSet}
use Rattle.questions.specs.Scopes.{whole_of}
use Rattle.questions.specs.steps.Claimed.{IsFree, MayFail}
use Rattle.questions.proofs.laws.ClaimLaws.{IsTold, box_at, fails_in, free_none, kept_all, unclear_all}
use Rattle.questions.proofs.laws.TrailLaws.{items_next}
use Rattle.questions.proofs.asked.claims.told_by_walks.Goals as goal
use Rattle.questions.proofs.asked.claims.told_by_walks.Goals.{in-Holds, in-Unclear}

pub loop-area-init : goal.loop-area-init
loop-area-init c = record {
  told = λ k d lt. absurd (omega (arith, lt));
  free = λ clear k d lt. absurd (omega (arith, lt));
  may = λ un. absurd (true≢false un);
}

pub loop-area-preserved : goal.loop-area-preserved
loop-area-preserved c =
    let s = c.args.subject.now in
    let given = c.args.given.now in
    let forbidden = c.args.forbidden.now in
    let i = c.loop-area.area-index in
    let box : List SpanSet = c.area-item.result in
    let boxes = given.boxes.items in
    let lt : i < length boxes = omega (arith, c.loop-area-test.true, ap (λ (bs : List (List SpanSet)). length bs) c.as_slice-area-items.ensures.value) in
    let at : box ≡ get_or boxes i box = c.area-item.is ∙ ap (λ (bs : List (List SpanSet)). get_or bs i box) c.as_slice-area-items.ensures.value in
    let Free : List SpanSet → Type 0 = λ b. IsFree s (box_at s given forbidden b) forbidden in
    let Told : List SpanSet → Type 0 = IsTold s given forbidden c.args.budget in
    let May : List SpanSet → Type 0 = λ b. MayFail (whole_of s) (box_at s given forbidden b) forbidden c.args.budget in
    elim c.match-branch-2.branch [
      | in-Holds w ↦ (
          let free : Free box = rw w.in-Holds.is at c.in_ok-claimed_in.ensures in
          rw w.clear-is (record {
            told = items_next Told boxes i box lt at c.loop-area.invariant.told (inr (free_none s given forbidden box free));
            free = λ clear. items_next Free boxes i box lt at (c.loop-area.invariant.free clear) free;
            may = c.loop-area.invariant.may;
          }))
      | in-Unclear w ↦ (
          let may : May box = rw w.in-Unclear.is at c.in_ok-claimed_in.ensures in
          let told : Told box = elim may [ inl cant ↦ inl cant | inr fails ↦ inr fails.1 ] in
          rw w.clear-is (record {
            told = items_next Told boxes i box lt at c.loop-area.invariant.told told;
            free = λ clear. absurd (true≢false (sym clear));
            may = λ un. (i, box, lt, sym at, may);
          }))
    ]

pub returns-in-Fails : goal.returns-in-Fails
returns-in-Fails c =
    let given = c.args.given.now in
    let box : List SpanSet = c.area-item.result in
    let lt : c.loop-area.area-index < length given.boxes.items = omega (arith, c.loop-area-test.true, ap (λ (bs : List (List SpanSet)). length bs) c.as_slice-area-items.ensures.value) in
    let at : box ≡ get_or given.boxes.items c.loop-area.area-index box = c.area-item.is ∙ ap (λ (bs : List (List SpanSet)). get_or bs c.loop-area.area-index box) c.as_slice-area-items.ensures.value in
    fails_in c.args.subject.now given c.args.forbidden.now box c.in-Fails.words c.in-Fails.answers (c.loop-area.area-index, lt, sym at) (rw c.in-Fails.is at c.in_ok-claimed_in.ensures)

pub returns-then-clear : goal.returns-then-clear
returns-then-clear c =
    let Free : List SpanSet → Type 0 = λ b. IsFree c.args.subject.now (box_at c.args.subject.now c.args.given.now c.args.forbidden.now b) c.args.forbidden.now in
    let boxes = c.args.given.now.boxes.items in
    kept_all c.args.subject.now c.args.given.now c.args.forbidden.now
    (λ k d lt. c.loop-area.invariant.free c.if-clear.true k d (omega (arith, lt, c.loop-area-test.false, ap (λ (bs : List (List SpanSet)). length bs) c.as_slice-area-items.ensures.value)))

pub returns : goal.returns
returns c =
    unclear_all c.args.subject.now c.args.given.now c.args.forbidden.now c.args.budget
    (λ k d lt. c.loop-area.invariant.told k d (omega (arith, lt, c.loop-area-test.false, ap (λ (bs : List (List SpanSet)). length bs) c.as_slice-area-items.ensures.value))) (c.loop-area.invariant.may c.if-clear.false)
