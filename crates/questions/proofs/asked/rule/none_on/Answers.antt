use Rattle.std.proofs.Common.{sym, ◌∙◌, arith, Contains, true≢false}
use Rattle.questions.specs.declared.walking.task.Leaf.{Leaf}
use Rattle.questions.proofs.laws.TrailLaws.{items_next}
use Rattle.questions.proofs.asked.rule.none_on.Goals as goal

pub loop-leaf-preserved : goal.loop-leaf-preserved
loop-leaf-preserved c =
    items_next (λ (leaf : Leaf). Contains leaf.trail.items c.args.step → ⊥) c.args.found.now c.loop-leaf.leaf-index c.leaf-item.result (omega arith) c.leaf-item.is c.loop-leaf.invariant
    (λ on. true≢false (sym (c.is_on.ensures.1 (rw c.as_slice.ensures.value on)) ∙ c.if-is_on.false))

pub returns-clause-none : goal.returns-clause-none
returns-clause-none c = λ t k d lt. c.loop-leaf.invariant k d (omega (arith, lt))

pub returns-then-is_on-clause-some : goal.returns-then-is_on-clause-some
returns-then-is_on-clause-some c = λ _. (c.loop-leaf.leaf-index, c.leaf-item.result, omega arith, sym c.leaf-item.is, rw c.as_slice.ensures.value at (c.is_on.ensures.0 c.if-is_on.true))
