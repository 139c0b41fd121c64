use Rattle.std.proofs.Common.{◌≡◌, ◌+◌, ◌-◌, refl, arith}
use Rattle.table.specs.declared.walk.trail.Step.{Step}
use Rattle.questions.specs.steps.Seeking.{KeepsIn, NoneAheadTakesOut}
use Rattle.questions.proofs.laws.SeekLaws.{none_leaves_next, parts_none, parts_then, parts_weaker}
use Rattle.questions.proofs.seeking.straying.add_taken_ahead.Goals as goal

pub loop-number-init : goal.loop-number-init
loop-number-init c = parts_none (NoneAheadTakesOut c.args.subject.now c.args.by 0) c.args.scope.now c.args.scopes.now.items (λ a p at here k o low high h l. absurd (omega (arith, high)))

pub loop-number-preserved : goal.loop-number-preserved
loop-number-preserved c =
    let s = c.args.subject.now in
    let by = c.args.by in
    let number = c.loop-number.number in
    let first = c.loop-number.auto.number in
    let ahead : Step = record { chain = by.chain; number = number } in
    let more = parts_then c.args.scope.now (NoneAheadTakesOut s by (number - 1)) (KeepsIn s ahead) (NoneAheadTakesOut s by (number - 1 + 1)) c.args.scopes.now.items c.loop-number.scopes.items c.add_taken.new.scopes.items
    (λ a p before here. none_leaves_next s by ahead (number - 1) a p refl (omega (arith, first)) before here) c.loop-number.invariant c.in_ok-add_taken.ensures in
    let e : number - 1 + 1 ≡ number + 1 - 1 = omega (arith, first) in
    rw e at more

pub returns : goal.returns
returns c =
    let s = c.args.subject.now in
    parts_weaker c.args.scope.now (NoneAheadTakesOut s c.args.by (c.loop-number.number - 1)) (NoneAheadTakesOut s c.args.by (c.args.by.number - 1)) c.args.scopes.now.items c.loop-number.scopes.items
    (λ a p at none k o low high h l. none k o low (omega (arith, high, c.loop-number-test.false)) h l) c.loop-number.invariant
