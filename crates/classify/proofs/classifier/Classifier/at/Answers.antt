use Rattle.std.proofs.Common.{ap, ◌<◌, ◌∙◌, ℕ, List, arith, length, map, subst, sym}
use Rattle.std.specs.Prelude.{slice_index}
use Rattle.std.proofs.lemmas.List.{length-set}
use Rattle.classify.specs.Classifier.{Classified, ClassifiedAndRoom, IsClassifierOf}
use Rattle.classify.specs.steps.Fields.{shown_by, shown_line}
use Rattle.classify.specs.steps.Kept.{AreOthers}
use Rattle.classify.proofs.laws.classifier.RuleLaws.{rules_answered}
use Rattle.classify.proofs.laws.search.CandidateLaws.{at_more, at_place, common_answers}
use Rattle.classify.proofs.laws.search.NextLaws.{others_stand}
use Rattle.classify.proofs.classifier.Classifier.at.Goals as goal

pub loop-i-preserved : goal.loop-i-preserved
loop-i-preserved c =
    let h = c.loop-i.invariant in
    let i : ℕ = c.loop-i.i in
    let fields : List ℕ = c.as_slice-others.result.now in
    let O : List ℕ → Type 0 = AreOthers c.self.inside.marks in
    let others = subst O (sym c.as_slice-others.ensures.value) c.self.invariant.2 in
    let lt : i < length fields = c.loop-i-test.true in
    let in' : slice_index fields i < length c.self.inside.lines = omega (arith, others.fields i 0 lt, c.self.invariant.0.fields) in
    record {
      long = length-set c.loop-i.places i c.place_at.result ∙ h.long;
      at = at_more (map shown_line c.self.inside.lines) c.args.point.now fields c.loop-i.places i c.place_at.result h.at (omega (arith, lt, h.long, others.few))
          (at_place c.self.inside.lines c.args.point.now fields i c.place_at.result c.index-self-field.result in' c.place_at.ensures.within c.place_at.ensures.here);
    }

pub invariant_of-result : goal.invariant_of-result
invariant_of-result c =
    let fields : List ℕ = c.as_slice-others.result.now in
    let O : List ℕ → Type 0 = AreOthers c.self.inside.marks in
    let others = subst O (sym c.as_slice-others.ensures.value) c.self.invariant.2 in (
      c.self.invariant.0,
      record {
        some = others.some;
        few = others.few;
        among = others.fields;
        within = λ i lt. (c.loop-i.invariant.at i (omega (arith, lt, c.loop-i-test.false))).within;
      },
    )

-- the lines that are looked at stand for all
pub returns-clause-boxes : goal.returns-clause-boxes
returns-clause-boxes c boxes is =
    let fields : List ℕ = c.as_slice-others.result.now in
    let lines = c.self.inside.lines in
    let now : Classified = shown_by c.self.inside.len lines in
    let O : List ℕ → Type 0 = AreOthers c.self.inside.marks in
    let others = subst O (sym c.as_slice-others.ensures.value) c.self.invariant.2 in
    let Q : Classified → Type 0 = λ k. IsClassifierOf boxes k in
    let own = subst Q (sym (ap (λ (k : ClassifiedAndRoom). k.shown) c.self.view_is)) is in
    common_answers now boxes c.args.point.now fields c.loop-i.places own c.requires others.fields
    (λ p lt. others_stand lines c.self.inside.len c.args.point.now c.self.inside.marks fields p c.self.invariant.0 c.self.invariant.1 others lt)
    (λ i lt. c.loop-i.invariant.at i (omega (arith, lt, c.loop-i-test.false)))

pub returns-clause-rules : goal.returns-clause-rules
returns-clause-rules c rules h = rules_answered rules c.args.point.now c.args.self.now.shown _ c.requires (returns-clause-boxes c) h
