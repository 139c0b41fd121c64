use Rattle.std.proofs.Common.{◌<◌, inr, length, sym, ◌∙◌, arith, subst, true≢false}
use Rattle.questions.specs.Scopes.{whole_of}
use Rattle.questions.specs.asked.Alike.{IsGivenBy}
use Rattle.questions.specs.steps.Compared.{MayDifferIn}
use Rattle.questions.proofs.laws.DifferLaws.{IsTold, given_written, may_among, told}
use Rattle.questions.proofs.laws.TrailLaws.{items_next}
use Rattle.questions.proofs.asked.likeness.likeness_among.Goals as goal
use Rattle.questions.proofs.asked.likeness.likeness_among.Goals.{in-Same, in-Unclear}

pub loop-leaf-preserved : goal.loop-leaf-preserved
loop-leaf-preserved c =
    let new = c.args.new.now in
    let hook = c.args.hook in
    let budget = c.args.budget in
    let found = c.args.found.now in
    let i = c.loop-leaf.leaf-index in
    let leaf = c.leaf-item.result in
    let lt : i < length found = omega arith in
    elim c.match-branch-2.branch [
      | in-Same w ↦ (
          let here : IsGivenBy new hook leaf = rw w.in-Same.is at c.in_ok-likeness_in.ensures.same in
          record {
            same = λ clear. items_next (IsGivenBy new hook) found i leaf lt c.leaf-item.is (c.loop-leaf.invariant.same (sym w.clear-is ∙ clear)) here;
            each = items_next (IsTold (whole_of new) hook budget) found i leaf lt c.leaf-item.is c.loop-leaf.invariant.each (inr (given_written new hook leaf here));
            some = λ off. c.loop-leaf.invariant.some (sym w.clear-is ∙ off);
          })
      | in-Unclear w ↦ (
          let may : MayDifferIn (whole_of new) hook budget leaf = rw w.in-Unclear.is at c.in_ok-likeness_in.ensures.unclear in
          record {
            same = λ clear. absurd (true≢false (sym clear ∙ w.clear-is));
            each = items_next (IsTold (whole_of new) hook budget) found i leaf lt c.leaf-item.is c.loop-leaf.invariant.each (told (whole_of new) hook budget leaf may);
            some = λ _. (i, leaf, lt, sym c.leaf-item.is, may);
          })
    ]

pub returns-in-Differ-clause-says : goal.returns-in-Differ-clause-says
returns-in-Differ-clause-says c = λ old shown.
    (rw c.in-Differ.is at c.in_ok-likeness_in.ensures.other) old (subst (IsGivenBy old c.args.hook) (sym c.leaf-item.is) (shown c.loop-leaf.leaf-index c.leaf-item.result (omega arith)))

pub returns-then-clear-clause-says : goal.returns-then-clear-clause-says
returns-then-clear-clause-says c = λ old shown k d lt. c.loop-leaf.invariant.same c.if-clear.true k d (omega (arith, lt))

pub returns-clause-unclear : goal.returns-clause-unclear
returns-clause-unclear c =
    may_among (whole_of c.args.new.now) c.args.hook c.args.budget c.args.found.now (λ k d lt. c.loop-leaf.invariant.each k d (omega (arith, lt))) (c.loop-leaf.invariant.some c.if-clear.false)
