use Rattle.std.proofs.Common.{◌≡◌, ◌≢◌, inl, inr, rules, sym, arith}
use Rattle.questions.specs.Written.{IsSampleOf}
use Rattle.questions.specs.steps.Compared.{IsUnwritten}
use Rattle.questions.proofs.laws.TrailLaws.{items_next}
use Rattle.questions.proofs.asked.other.other_among.Goals as goal

pub loop-leaf-preserved-then-eq : goal.loop-leaf-preserved-then-eq
loop-leaf-preserved-then-eq c =
    let same : c.leaf-item.result.verdict ≡ c.args.verdict = search rules in
    items_next (IsUnwritten c.args.hook c.args.verdict) c.args.leaves.now c.loop-leaf.leaf-index c.leaf-item.result (omega arith) c.leaf-item.is c.loop-leaf.invariant (inl same)

pub loop-leaf-preserved : goal.loop-leaf-preserved
loop-leaf-preserved c =
    items_next (IsUnwritten c.args.hook c.args.verdict) c.args.leaves.now c.loop-leaf.leaf-index c.leaf-item.result (omega arith) c.leaf-item.is c.loop-leaf.invariant (inr (rw c.in-None.is at c.in_ok-sample_of.ensures))

pub returns : goal.returns
returns c = λ k d lt. c.loop-leaf.invariant k d (omega (arith, lt))

pub returns-in-Some : goal.returns-in-Some
returns-in-Some c =
    let other : c.leaf-item.result.verdict ≢ c.args.verdict = search rules in
    let own : IsSampleOf c.args.hook c.leaf-item.result.area c.in-Some.sample.words c.in-Some.sample.packet = rw c.in-Some.is at c.in_ok-sample_of.ensures in
    (c.loop-leaf.leaf-index, c.leaf-item.result, omega arith, sym c.leaf-item.is, (other, c.in_ok-answers-in-Some.ensures, (c.in-Some.sample.packet, own)))
