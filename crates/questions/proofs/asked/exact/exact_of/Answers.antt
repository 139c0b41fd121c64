use Rattle.std.proofs.Common.{◌<◌, length, sym, subst, arith, List, All}
use Rattle.std.proofs.lemmas.List.Elements.{All-nil}
use Rattle.questions.specs.declared.walking.task.Leaf.{Leaf}
use Rattle.questions.specs.steps.Exact.{AddsExact, IsExactUnder}
use Rattle.questions.proofs.laws.ExactLaws.{covered_next, shown_at}
use Rattle.questions.proofs.asked.exact.exact_of.Goals as goal

pub loop-leaf-init : goal.loop-leaf-init
loop-leaf-init c = λ t known hook scope are shown. record {
  each = (let Q : List Leaf → Type 0 = λ ls. All (IsExactUnder t known hook scope) ls in subst Q (sym c.new-exact.ensures.items) (All-nil (IsExactUnder t known hook scope)));
  all = λ k d lt. absurd (omega (arith, lt));
}

pub loop-leaf-preserved : goal.loop-leaf-preserved
loop-leaf-preserved c = λ t known hook scope are shown.
    let leaf = c.leaf-item.result in
    let i = c.loop-leaf.leaf-index in
    let found = c.args.found.now in
    let old = c.loop-leaf.exact.items in
    let new = c.add_parts.new.exact.items in
    let lt : i < length found = omega (arith, c.loop-leaf-test.true) in
    let adds : AddsExact t known hook scope leaf old new = c.in_ok-add_parts.ensures t known hook scope are (shown_at t known hook scope found i leaf lt c.leaf-item.is shown) in
    let before = c.loop-leaf.invariant t known hook scope are shown in
    record { each = adds.each before.each; all = covered_next t known hook scope found i leaf lt c.leaf-item.is old new adds before.all }

pub returns : goal.returns
returns c = λ t known hook scope are shown.
    let h = c.loop-leaf.invariant t known hook scope are shown in
    record { each = h.each; all = λ k d lt. h.all k d (omega (arith, lt, c.loop-leaf-test.false)) }
