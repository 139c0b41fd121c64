use Rattle.std.proofs.Common.{ℕ, [], ◌∷◌, length, map, arith, sym, subst, ap, length-append}
use Rattle.std.proofs.lemmas.List.{length-map}
use Rattle.questions.specs.Scopes.{table_of}
use Rattle.questions.specs.steps.Ending.{AreSparedIn, items_in, listed}
use Rattle.questions.proofs.laws.IdleLaws.{asked_before, chains_more, spared_all}
use Rattle.questions.proofs.walking.idle.spared.Goals as goal

pub loop-place-init : goal.loop-place-init
loop-place-init c = record { long = ap length c.new-chains.ensures.items; each = λ k lt. absurd (omega (arith, lt, length-map c.new-chains.result.items (λ chain. map items_in chain.items), ap length c.new-chains.ensures.items)) }

pub spared_in-requires-clause-place : goal.spared_in-requires-clause-place
spared_in-requires-clause-place c = omega (arith, c.loop-place-test.true, c.chain_count-place-end.ensures)

pub loop-place-preserved : goal.loop-place-preserved
loop-place-preserved c =
    let t = table_of c.args.subject.now in
    let values = c.args.packet.now.values in
    let needs = c.args.subject.now.needs.now in
    let before = c.loop-place.chains.items in
    let own = c.in_ok-spared_in.field-0 in
    let here = c.in_ok-spared_in.ensures values (rw c.as_slice.ensures.value c.in_ok-marks.ensures) in
    record {
      long = omega (arith, ap length c.in_ok-push.ensures.items, length-append before (own ∷ []), c.loop-place.invariant.long);
      each = chains_more t values needs before c.push.new.self.items own c.in_ok-push.ensures.items
          (subst (λ (k : ℕ). AreSparedIn t values needs k (map items_in own.items)) (sym c.loop-place.invariant.long) here) c.loop-place.invariant.each;
    }

pub returns-clause-spared : goal.returns-clause-spared
returns-clause-spared c =
    let t = table_of c.args.subject.now in
    rw c.of.ensures (spared_all t c.args.packet.now.values c.args.subject.now.needs.now (listed c.loop-place.chains.items)
    (omega (arith, length-map c.loop-place.chains.items (λ chain. map items_in chain.items), c.loop-place.invariant.long, c.chain_count-place-end.ensures, c.loop-place-test.false, c.loop-place.auto.place-end)) c.loop-place.invariant.each)

pub returns-clause-asked : goal.returns-clause-asked
returns-clause-asked c = rw c.of.ensures (asked_before (table_of c.args.subject.now) c.args.packet.now.values c.args.subject.now.needs.now (listed c.loop-place.chains.items) c.loop-place.invariant.each)
