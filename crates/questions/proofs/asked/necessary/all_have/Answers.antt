use Rattle.std.proofs.Common.{arith, sym, ◌∙◌, true≢false}
use Rattle.questions.specs.boxes.Boxes.{IsIn}
use Rattle.questions.specs.declared.walking.task.Leaf.{Leaf}
use Rattle.questions.specs.steps.Takers.{IsSurelyOn, needs_of}
use Rattle.questions.proofs.laws.TrailLaws.{items_next}
use Rattle.questions.proofs.asked.necessary.all_have.Goals as goal
use Rattle.questions.proofs.asked.necessary.all_have.Goals.{else-has-via-then-has+else-not-is_surely_on, else-has-via-else-has}

pub loop-leaf-preserved : goal.loop-leaf-preserved
loop-leaf-preserved c =
    let Sure : Leaf → Type 0 = λ leaf. IsSurelyOn (needs_of c.args.subject.now.needs.now c.args.step) c.args.step leaf in
    items_next (λ (leaf : Leaf). IsIn leaf.area c.args.packet.now → Sure leaf) c.args.found.now c.loop-leaf.leaf-index c.leaf-item.result (omega arith) c.leaf-item.is c.loop-leaf.invariant
    (λ inside. elim c.else-has.branch [
      | else-has-via-then-has+else-not-is_surely_on w ↦ rw c.at-needs.ensures at (w.is_surely_on.ensures.yes w.if-not-is_surely_on.false)
      | else-has-via-else-has w ↦ absurd (true≢false (sym inside.each ∙ rw (← c.sets.ensures.value) (sym c.has.ensures ∙ w.if-has.false)))
    ])

pub returns-clause-yes : goal.returns-clause-yes
returns-clause-yes c = λ _ k d lt. c.loop-leaf.invariant k d (omega (arith, lt, c.loop-leaf-test.false))

pub returns-then-not-is_surely_on-clause-no : goal.returns-then-not-is_surely_on-clause-no
returns-then-not-is_surely_on-clause-no c = λ _. (c.loop-leaf.leaf-index, c.leaf-item.result, omega arith, sym c.leaf-item.is, (record { each = rw (← c.sets.ensures.value) (sym c.has.ensures ∙ c.if-has.true) }, rw c.at-needs.ensures at (c.is_surely_on.ensures.no c.if-not-is_surely_on.true)))
