use Rattle.std.proofs.Common.{◌≡◌, ◌++◌, ◌∷◌, ◌+◌, [], List, take, length, arith, subst, sym, ◌∙◌, ap, rules}
use Rattle.std.proofs.lemmas.List.{take_all, take_more}
use Rattle.fields.specs.numbers.Spans.{SpanSet}
use Rattle.questions.specs.declared.walking.task.Leaf.{Leaf}
use Rattle.questions.specs.steps.Exact.{AreExactIn}
use Rattle.questions.proofs.laws.ExactLaws.{exact_in_more}
use Rattle.questions.proofs.asked.reach.exact_in_all.Goals as goal

pub loop-area-preserved : goal.loop-area-preserved
loop-area-preserved c =
    let t = c.args.boxed.now.table.table in
    let hook = c.args.given.now.hook in
    let boxes = c.as_slice-area-items.result.now in
    let i = c.loop-area.area-index in
    let box = c.area-item.result in
    let old = c.loop-area.exact.items in
    let new = c.in-Some.leaves.items in
    let Before : List (List SpanSet) → Type 0 = λ all. AreExactIn t hook (take i all) old in
    let before : AreExactIn t hook (take i boxes) old = subst Before (sym c.as_slice-area-items.ensures.value) c.loop-area.invariant in
    let here : AreExactIn t hook (box ∷ []) new = search rules in
    let more = exact_in_more t hook (take i boxes) (box ∷ []) old new before here in
    let grown : take i boxes ++ box ∷ [] ≡ take (i + 1) boxes = ap (λ (b : List SpanSet). take i boxes ++ b ∷ []) c.area-item.is ∙ sym (take_more boxes i box (omega arith)) in
    let Those : List (List SpanSet) → Type 0 = λ all. AreExactIn t hook all (old ++ new) in
    let After : List (List SpanSet) → Type 0 = λ all. AreExactIn t hook (take (i + 1) all) (old ++ new) in
    let Leaves : List Leaf → Type 0 = λ leaves. AreExactIn t hook (take (i + 1) c.args.given.now.boxes.items) leaves in
    subst Leaves (sym c.in_ok-append.ensures.items) (subst After c.as_slice-area-items.ensures.value (subst Those grown more))

pub returns : goal.returns
returns c =
    let P : List (List SpanSet) → Type 0 = λ all. AreExactIn c.args.boxed.now.table.table c.args.given.now.hook all c.loop-area.exact.items in
    subst P (take_all c.loop-area.area-index c.args.given.now.boxes.items (omega (arith, ap (λ (l : List (List SpanSet)). length l) c.as_slice-area-items.ensures.value))) c.loop-area.invariant
