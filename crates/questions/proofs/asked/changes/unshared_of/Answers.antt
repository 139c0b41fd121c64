use Rattle.std.proofs.Common.{◌≡◌, ℕ, Bool, List, ◌∙◌, ap, arith}
use Rattle.table.specs.declared.walk.trail.Step.{Step}
use Rattle.questions.specs.Leaves.{name_at}
use Rattle.questions.specs.steps.Candidates.{AddsRules}
use Rattle.questions.specs.asked.Changes.{IsThis}
use Rattle.questions.specs.steps.Shared.{marks_on, pair_named, unshared}
use Rattle.questions.proofs.laws.BoxesLaws.{all_next, before_next}
use Rattle.questions.proofs.laws.SharedLaws.{unshared_in}
use Rattle.questions.proofs.asked.changes.unshared_of.Goals as goal

pub loop-place-preserved : goal.loop-place-preserved
loop-place-preserved c =
    let t = c.args.table.now.table in
    let chains = c.args.old.now.table.chains in
    let pairs = c.args.pairs.now in
    let place = c.loop-place.place in
    let old = c.loop-place.found.items in
    let new = c.add_marked.new.found.items in
    let This : Step → Type 0 = λ x. IsThis t (unshared c.args.side chains pairs) x in
    let named : List ℕ → List Bool = λ name. marks_on c.args.side (pair_named chains pairs name) in
    let are : c.marks_of-marks.result.now ≡ named (name_at t.chains place) = c.marks_of-marks.ensures ∙ ap named c.chain_name.ensures in
    let adds : AddsRules This place old new = unshared_in t c.args.side chains pairs c.marks_of-marks.result.now place old new are c.in_ok-add_marked.ensures in
    record { before = before_next This place old new adds c.loop-place.invariant.before; only = all_next This place old new adds c.loop-place.invariant.only }

pub returns : goal.returns
returns c = record {
  all = λ step this. c.loop-place.invariant.before step (omega (arith, this.0.chain, c.chain_count-place-end.ensures, c.loop-place-test.false)) this;
  only = c.loop-place.invariant.only;
}
