use Rattle.std.proofs.Common.{◌-◌, ◌≡◌, ◌<◌, ◌∙◌, length, get_or, ℕ, ap, subst, sym, arith}
use Rattle.std.proofs.lemmas.List.{get_or_default}
use Rattle.questions.specs.declared.seeking.calls.Call.{Call}
use Rattle.questions.specs.Scopes.{table_of, whole_of}
use Rattle.questions.specs.boxes.Calls.{IsCall}
use Rattle.questions.specs.steps.Seeking.{top_of, IsLonger}
use Rattle.questions.proofs.laws.SeekLaws.{taken_next, taken_over}
use Rattle.questions.proofs.laws.WayLaws.{adds_none, adds_on}
use Rattle.questions.proofs.seeking.way.add_longer.Goals as goal
use Rattle.questions.proofs.seeking.way.add_longer.Goals.{then-to-chain+in_ok-add_by, else-to-chain}

pub loop-before-preserved : goal.loop-before-preserved
loop-before-preserved c =
    let s = c.args.subject.now in
    let way = c.args.way.now in
    let calls = c.calls-calls.result.now in
    let chain = c.chain-chain.result in
    let before = c.loop-before.before in
    let old = c.loop-before.ways.items in
    let place = length calls - 1 - before in
    let none : Call = record { to = 0; by = record { chain = 0; number = 0 } } in
    let lt : place < length calls = omega (arith, c.loop-before-test.true) in
    let same : (d : Call) → get_or calls place d ≡ get_or calls place none = λ d. get_or_default calls place d none lt in
    let here : Call = get_or calls place none in
    let is : IsCall (table_of s) here = c.calls-calls.ensures.only place none lt in
    let To : ℕ → Type 0 = λ to. IsCall (table_of s) (record { to = to; by = here.by }) in
    let call : here.to ≡ chain → To (top_of way.wanted way.places.items).chain = λ to. subst To (to ∙ c.chain-chain.ensures) is in
    elim c.if-to-chain.branch [
      | then-to-chain+in_ok-add_by w ↦ (
          let new = w.add_by.new.ways.items in
          rw w.ways-is (record {
            kept = λ a p h. w.in_ok-add_by.ensures.takes.kept a p (c.loop-before.invariant.kept a p h);
            wanted = λ step is all. w.in_ok-add_by.ensures.takes.wanted step is (c.loop-before.invariant.wanted step is all);
            longer = adds_on (IsLonger (whole_of s) way) c.args.ways.now.items old new c.loop-before.invariant.longer (w.in_ok-add_by.ensures.longer (call w.if-to-chain.true));
            taken = taken_next s c.stands.ensures.sound way chain calls before old new c.loop-before-test.true w.in_ok-add_by.ensures.takes.kept (λ d to. rw (← same d) at w.in_ok-add_by.ensures.takes.taken) c.loop-before.invariant.taken;
          }))
      | else-to-chain w ↦ rw w.ways-is (record {
        kept = c.loop-before.invariant.kept;
        wanted = c.loop-before.invariant.wanted;
        longer = c.loop-before.invariant.longer;
        taken = taken_next s c.stands.ensures.sound way chain calls before old old c.loop-before-test.true (λ a p h. h) (λ d to. absurd (w.if-to-chain.false (ap (λ (call : Call). call.to) (sym (same d)) ∙ to))) c.loop-before.invariant.taken;
      })
    ]

pub loop-before-init : goal.loop-before-init
loop-before-init c = record { kept = λ a p h. h; wanted = λ step is all. all; longer = adds_none (IsLonger (whole_of c.args.subject.now) c.args.way.now) c.args.ways.now.items; taken = λ k d lt le to. absurd (omega (arith, lt, le)) }

pub returns-clause-takes : goal.returns-clause-takes
returns-clause-takes c =
    let s = c.args.subject.now in
    let way = c.args.way.now in
    let calls = c.calls-calls.result.now in
    let Q = rw c.chain-chain.ensures at c.loop-before.invariant.taken in
    taken_over s c.stands.ensures.sound c.args.hook way calls c.args.ways.now.items c.loop-before.ways.items c.calls-calls.ensures c.requires.there c.requires.other c.loop-before.invariant.kept
    (λ k d lt le to. Q k d lt (omega (arith, le, c.loop-before-test.false)) to) c.loop-before.invariant.wanted
