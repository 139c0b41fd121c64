use Rattle.std.proofs.Common.{sym, ◌∙◌, arith, true≢false}
use Rattle.questions.specs.steps.Tried.{IsGone}
use Rattle.questions.proofs.laws.TrailLaws.{items_next}
use Rattle.questions.proofs.seeking.walked.came_among.Goals as goal

pub loop-leaf-preserved-then-not-has : goal.loop-leaf-preserved-then-not-has
loop-leaf-preserved-then-not-has c =
    items_next (IsGone c.args.needs.now c.args.wanted c.args.packet.now) c.args.found.now c.loop-leaf.leaf-index c.leaf-item.result (omega arith) c.leaf-item.is c.loop-leaf.invariant
    (λ inside on. absurd (true≢false (sym inside.each ∙ sym (rw c.sets.ensures.value at c.has.ensures) ∙ c.if-not-has.true)))

pub loop-leaf-preserved : goal.loop-leaf-preserved
loop-leaf-preserved c =
    items_next (IsGone c.args.needs.now c.args.wanted c.args.packet.now) c.args.found.now c.loop-leaf.leaf-index c.leaf-item.result (omega arith) c.leaf-item.is c.loop-leaf.invariant
    (λ inside on. (rw (c.in_default.is, c.as_slice.ensures.value) at c.in_ok-answers.ensures) on)

pub returns-in-Some : goal.returns-in-Some
returns-in-Some c =
    let found = rw (c.in-Some.is, c.as_slice.ensures.value) at c.in_ok-answers.ensures in (
      c.loop-leaf.leaf-index,
      c.leaf-item.result,
      omega arith,
      sym c.leaf-item.is,
      record { inside = record { each = sym (rw c.sets.ensures.value at c.has.ensures) ∙ c.if-not-has.false }; on = found.0; more = found.1 },
    )
