use Rattle.std.proofs.Common.{inl, inr, sym, ◌∙◌, arith, true≢false}
use Rattle.questions.specs.Written.{IsSampleOf}
use Rattle.questions.specs.steps.Claimed.{IsPassing}
use Rattle.questions.proofs.laws.TrailLaws.{items_next}
use Rattle.questions.proofs.asked.claims.against.Goals as goal

pub loop-leaf-init : goal.loop-leaf-init
loop-leaf-init c = λ k d lt. absurd (omega (arith, lt))

pub loop-leaf-preserved-then-not-is_forbidden : goal.loop-leaf-preserved-then-not-is_forbidden
loop-leaf-preserved-then-not-is_forbidden c =
    items_next (IsPassing c.args.hook c.args.forbidden.now) c.args.leaves.now c.loop-leaf.leaf-index c.leaf-item.result (omega arith) c.leaf-item.is c.loop-leaf.invariant (inl (λ has. true≢false (sym (c.is_forbidden.ensures.1 has) ∙ c.if-not-is_forbidden.true)))

pub loop-leaf-preserved : goal.loop-leaf-preserved
loop-leaf-preserved c =
    items_next (IsPassing c.args.hook c.args.forbidden.now) c.args.leaves.now c.loop-leaf.leaf-index c.leaf-item.result (omega arith) c.leaf-item.is c.loop-leaf.invariant (inr (rw c.in-None.is at c.in_ok-sample_of.ensures))

pub returns : goal.returns
returns c = λ k d lt. c.loop-leaf.invariant k d (omega (arith, lt))

pub returns-in-Some : goal.returns-in-Some
returns-in-Some c =
    let own : IsSampleOf c.args.hook c.leaf-item.result.area c.in-Some.sample.words c.in-Some.sample.packet = rw c.in-Some.is at c.in_ok-sample_of.ensures in
    (c.loop-leaf.leaf-index, c.leaf-item.result, omega arith, sym c.leaf-item.is, (c.is_forbidden.ensures.0 c.if-not-is_forbidden.false, c.in_ok-answers-in-Some.ensures, (c.in-Some.sample.packet, own)))
