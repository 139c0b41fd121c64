use Rattle.std.proofs.Common.{List, arith, refl, sym, subst, take, take_all}
use Rattle.std.proofs.lemmas.List.{take_more}
use Rattle.questions.specs.declared.asked.ends.End.{End}
use Rattle.questions.specs.declared.walking.task.Leaf.{Leaf}
use Rattle.questions.specs.steps.Ending.{AreShown}
use Rattle.questions.proofs.laws.IdleLaws.{shown_more, shown_none}
use Rattle.questions.proofs.asked.ends.ends_of.Goals as goal

pub loop-leaf-init : goal.loop-leaf-init
loop-leaf-init c = shown_none c.args.leaves.now c.new-ends.result.items c.new-ends.ensures.items

pub loop-leaf-preserved : goal.loop-leaf-preserved
loop-leaf-preserved c =
    let leaf : Leaf = c.leaf-item.result in
    let end : End = record { answers = c.in_ok-copy.field-0; verdict = leaf.verdict; by = c.decider.result } in
    rw (c.in_ok-push.ensures.items, take_more c.args.leaves.now c.loop-leaf.leaf-index leaf c.loop-leaf-test.true, sym c.leaf-item.is)
    (shown_more (take c.loop-leaf.leaf-index c.args.leaves.now) leaf c.loop-leaf.ends.items end (record { answers = c.in_ok-copy.ensures; verdict = refl; by = c.decider.ensures; consistent = rw c.in_ok-copy.ensures c.stand.ensures }) c.loop-leaf.invariant)

pub returns : goal.returns
returns c = subst (λ (leaves : List Leaf). AreShown leaves c.loop-leaf.ends.items) (take_all c.loop-leaf.leaf-index c.args.leaves.now (omega (arith, c.loop-leaf-test.false))) c.loop-leaf.invariant
