use Rattle.std.proofs.Common.{◌≡◌, ◌⊎◌, inl, inr, ℕ, ◌<◌, false, IsTrue, length, get_or, sym, ◌∙◌, arith, subst, Some, None}
use Rattle.std.proofs.lemmas.List.{get_or_default}
use Rattle.std.proofs.lemmas.Result.{IfOk-weaker}
use Rattle.table.specs.steps.Kept.{hook_index}
use Rattle.questions.specs.Scopes.{table_of}
use Rattle.questions.specs.boxes.Calls.{IsCall}
use Rattle.questions.specs.declared.seeking.calls.Call.{Call}
use Rattle.questions.specs.steps.Deciding.{AddsAt, AddsBy}
use Rattle.questions.proofs.laws.LetInLaws.{adds_all, adds_near, by_grows, by_taken, done_next, take_near}
use Rattle.questions.proofs.laws.TakerLaws.{grows_on, grows_same}
use Rattle.questions.proofs.asked.takers.add_at.Goals as goal
use Rattle.questions.proofs.asked.takers.add_at.Goals.{else-to-step-via-else-to-step, else-to-step-via-then-to-step+in_ok-add_by+else-not-branch, then-not-near-via-else-not-near+then-hook_index-step, then-not-near-via-then-not-near}

-- all packets of the hook
pub returns-then-not-near-clause-known : goal.returns-then-not-near-clause-known
returns-then-not-near-clause-known c =
    let s = c.args.subject.now in
    let step = c.args.step in
    let hook = c.args.course.hook in
    let old = c.args.takers.now in
    let new = c.add_by.new.takers in
    let whole : (c.args.near ≡ false) ⊎ (hook_index hook ≡ step.chain) = elim c.then-not-near.branch [
      | then-not-near-via-then-not-near w ↦ inl w.if-not-near.true
      | then-not-near-via-else-not-near+then-hook_index-step w ↦ inr (sym w.hook_index.ensures ∙ w.if-hook_index-step.true)
    ] in
    IfOk-weaker c.add_by.result (λ is. IsTrue is → AddsBy s step None hook old new) (λ is. IsTrue is → AddsAt s step c.args.near hook old new)
    (λ is h t. adds_all s c.stands.ensures.sound step c.args.near hook old new whole (h t)) c.add_by.ensures.known

pub loop-call-init : goal.loop-call-init
loop-call-init c = record { grows = grows_same c.args.takers.now; each = λ led h. h; done = λ k d lt. absurd (omega (arith, lt)) }

-- a call more
pub loop-call-preserved : goal.loop-call-preserved
loop-call-preserved c =
    let s = c.args.subject.now in
    let sound = c.stands.ensures.sound in
    let step = c.args.step in
    let hook = c.args.course.hook in
    let calls = c.calls-call-items.result.now in
    let i = c.loop-call.call-index in
    let first = c.args.takers.now in
    let old = c.loop-call.takers in
    let none : Call = record { to = 0; by = record { chain = 0; number = 0 } } in
    let lt : i < length calls = omega (arith, c.loop-call-test.true) in
    let here : Call = get_or calls i none in
    let own : here ≡ get_or calls i here = get_or_default calls i none here lt in
    elim c.else-to-step.branch [
      | else-to-step-via-then-to-step+in_ok-add_by+else-not-branch w ↦ (
          let new = w.add_by-then-to-step.new.takers in
          let Leads : ℕ → Type 0 = λ to. IsCall (table_of s) (record { to = to; by = here.by }) in
          let call = subst Leads w.if-to-step.true (c.calls-call-items.ensures.only i none lt) in
          let adds : AddsBy s step (Some here.by) hook old new = w.in_ok-add_by.ensures.known w.if-not-branch.false in
          let grows = by_grows s sound step (Some here.by) hook old new adds in
          rw w.takers-is (record {
            grows = grows_on first old new c.loop-call.invariant.grows grows;
            each = λ led h. take_near s sound step here.by hook old new call adds led (c.loop-call.invariant.each led h);
            done = done_next s sound step calls hook old new i here lt own grows (λ to. by_taken s sound step here.by hook old new adds) c.loop-call.invariant.done;
          }))
      | else-to-step-via-else-to-step w ↦ rw w.takers-is (record {
        grows = c.loop-call.invariant.grows;
        each = c.loop-call.invariant.each;
        done = done_next s sound step calls hook old old i here lt own (grows_same old) (λ to. absurd (w.if-to-step.false to)) c.loop-call.invariant.done;
      })
    ]

-- all calls
pub returns-clause-known : goal.returns-clause-known
returns-clause-known c = λ _.
    let s = c.args.subject.now in
    let step = c.args.step in
    let hook = c.args.course.hook in
    let calls = c.calls-call-items.result.now in
    let old = c.args.takers.now in
    let new = c.loop-call.takers in
    rw (← c.if-not-near.false) at (adds_near s c.stands.ensures.sound step calls hook old new c.requires c.calls-call-items.ensures (λ own. c.if-hook_index-step.false (c.hook_index.ensures ∙ own)) c.loop-call.invariant.grows c.loop-call.invariant.each
    (λ k d lt to. c.loop-call.invariant.done k d (omega (arith, lt, c.loop-call-test.false)) to))
