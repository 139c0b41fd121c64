use Rattle.std.proofs.Common.{sym, ◌∙◌, arith, Contains, true≢false}
use Rattle.questions.specs.declared.walking.task.Leaf.{Leaf}
use Rattle.questions.proofs.laws.TrailLaws.{items_next}
use Rattle.questions.proofs.asked.claims.none_has.Goals as goal

pub loop-leaf-init : goal.loop-leaf-init
loop-leaf-init c = λ k d lt. absurd (omega (arith, lt))

pub loop-leaf-preserved : goal.loop-leaf-preserved
loop-leaf-preserved c =
    items_next (λ (leaf : Leaf). Contains c.args.forbidden.now leaf.verdict → ⊥) c.args.leaves.now c.loop-leaf.leaf-index c.leaf-item.result (omega arith) c.leaf-item.is c.loop-leaf.invariant (λ has. true≢false (sym (c.is_forbidden.ensures.1 has) ∙ c.if-is_forbidden.false))

pub returns-then-is_forbidden-clause-some : goal.returns-then-is_forbidden-clause-some
returns-then-is_forbidden-clause-some c = λ _. (c.loop-leaf.leaf-index, c.leaf-item.result, omega arith, sym c.leaf-item.is, c.is_forbidden.ensures.0 c.if-is_forbidden.true)

pub returns-clause-none : goal.returns-clause-none
returns-clause-none c = λ _ k d lt. c.loop-leaf.invariant k d (omega (arith, lt))
