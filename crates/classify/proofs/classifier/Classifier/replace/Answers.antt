use Rattle.std.proofs.Common.{get_or, ◌<◌, arith, ap, length, ◌≤◌, List, ℕ, subst, ◌≡◌, ◌∙◌, sym, rules, Bool}
use Rattle.std.proofs.lemmas.Bool.{false≢true}
use Rattle.fields.specs.declared.numbers.field.TheConstants.{FIELDS}
use Rattle.fields.specs.numbers.Spans.{SpanSet}
use Rattle.classify.specs.steps.Kept.{IsEverything}
use Rattle.classify.specs.Classifier.{Classified, ClassifiedAndRoom, IsClassifierOf, HasNoNewCut}
use Rattle.bits.specs.MarginRows.{Room}
use Rattle.classify.specs.steps.Fields.{room_beside}
use Rattle.classify.proofs.laws.classifier.ClassifierLaws.{no_set, classifier_written, sound_lines, still_sound, kept_shown, same_shown, no_new_cuts, on_err_anyway, kept_room, margin_by, same_keeps}
use Rattle.classify.proofs.laws.classifier.WholeLaws.{whole_replaced, whole_same}
use Rattle.classify.proofs.laws.classifier.RuleLaws.{rules_replaced}
use Rattle.classify.proofs.classifier.Classifier.replace.Goals as goal

pub replace_lines-requires-clause-sound : goal.replace_lines-requires-clause-sound
replace_lines-requires-clause-sound c =
    let n : length c.self.inside.lines ≡ FIELDS = c.self.invariant.0.fields in
    sound_lines c.self.inside.lines c.spans.result.now c.args.boxed c.self.inside.len n c.spans.ensures.value c.spans.ensures.whole c.self.invariant.0

pub invariant_of-self-2 : goal.invariant_of-self-2
invariant_of-self-2 c =
    let n : length c.self.inside.lines ≡ FIELDS = c.self.invariant.0.fields in
    let m : length c.replace_lines.new.lines ≡ length c.self.inside.lines = c.replace_lines.auto.lines in
    let sound = sound_lines c.self.inside.lines c.spans.result.now c.args.boxed c.self.inside.len n c.spans.ensures.value c.spans.ensures.whole c.self.invariant.0 in (
      still_sound c.replace_lines.new.lines c.spans.result.now c.args.boxed c.self.inside.len (m ∙ n) c.spans.ensures.value c.spans.ensures.whole c.self.invariant.0.few
          (λ k s l lt. c.in_ok-replace_lines.ensures.sound k s l (omega arith))
          (margin_by (λ n. n) _ _ m (λ k l lt. ap (λ (r : Room). r.before) (c.replace_lines.ensures.room k l lt)) c.self.invariant.0.margin),
      λ k l lt on. (let s : SpanSet = no_set in
          let lt' : k < length c.self.inside.lines = omega arith in
          let was = (c.unmark.ensures k s).0 on in
          let P : List SpanSet → Type 0 = λ spans. IsEverything (get_or spans k s) in
          whole_replaced c.self.inside.len c.args.at (get_or c.spans.result.now k s) (get_or c.self.inside.lines k l) (get_or c.replace_lines.new.lines k l) (sound k s l lt') (c.self.invariant.1 k l lt' was.0)
          (subst P (c.spans-2.ensures.value ∙ sym c.spans.ensures.value) was.1) (c.in_ok-replace_lines.ensures.ok k s l lt')),
      c.others-self-inside.ensures,
    )

pub returns-clause-boxes : goal.returns-clause-boxes
returns-clause-boxes c boxes h =
    let n : length c.self.inside.lines ≡ FIELDS = c.self.invariant.0.fields in
    let m : length c.replace_lines.new.lines ≡ length c.self.inside.lines = c.replace_lines.auto.lines in
    let P : Classified → Type 0 = λ k. IsClassifierOf boxes k in
    classifier_written c.self.inside.lines c.replace_lines.new.lines c.spans.result.now c.args.boxed boxes c.self.inside.len c.args.at n m c.spans.ensures.value c.spans.ensures.whole
    c.in_ok-replace_lines.ensures.ok (subst P (sym (ap (λ (k : ClassifiedAndRoom). k.shown) c.self.view_is)) h)

pub returns-clause-rules : goal.returns-clause-rules
returns-clause-rules c rule is rules h = rules_replaced rules c.args.at rule c.args.boxed c.args.self.now.shown _ (returns-clause-boxes c) h is

pub invariant_of-self : goal.invariant_of-self
invariant_of-self c = (
  kept_shown c.self.inside.lines c.replace_lines.new.lines c.self.inside.len c.replace_lines.auto.lines c.in_err-replace_lines.ensures.err
      (margin_by (λ n. n) _ _ c.replace_lines.auto.lines (λ k l lt. ap (λ (r : Room). r.before) (c.replace_lines.ensures.room k l lt)) c.self.invariant.0.margin) c.self.invariant.0,
  λ k l lt on. (let lt' : k < length c.self.inside.lines = omega (arith, c.replace_lines.auto.lines) in
      whole_same (get_or c.self.inside.lines k l) (get_or c.replace_lines.new.lines k l) (c.in_err-replace_lines.ensures.err k l lt') (c.self.invariant.1 k l lt' on)),
  c.self.invariant.2,
)

pub returns-in_err-replace_lines-clause-err : goal.returns-in_err-replace_lines-clause-err
returns-in_err-replace_lines-clause-err c =
    let m : length c.replace_lines.new.lines ≡ length c.self.inside.lines = c.replace_lines.auto.lines in
    on_err_anyway c.from_residual.result (
    ap (λ (lines : List (List (ℕ × List Bool))). record { len = c.self.inside.len; lines = lines }) (same_shown c.self.inside.lines c.replace_lines.new.lines m c.in_err-replace_lines.ensures.err) ∙ ap (λ (k : ClassifiedAndRoom). k.shown) c.self.view_is)

pub returns-in_err-replace_lines-clause-there : goal.returns-in_err-replace_lines-clause-there
returns-in_err-replace_lines-clause-there c none =
    let n : length c.self.inside.lines ≡ FIELDS = c.self.invariant.0.fields in
    let P : Classified → Type 0 = λ k. HasNoNewCut c.args.boxed k in
    absurd (false≢true (c.in_err-replace_lines.ensures.there (no_new_cuts c.self.inside.lines c.spans.result.now c.args.boxed c.self.inside.len n c.spans.ensures.value c.spans.ensures.whole (subst P (sym (ap (λ (k : ClassifiedAndRoom). k.shown) c.self.view_is)) none))))

pub returns-clause-room : goal.returns-clause-room
returns-clause-room c none =
    let Q : ClassifiedAndRoom → Type 0 = λ k. k.room ≤ room_beside c.self.inside.len c.replace_lines.new.lines in
    subst Q c.self.view_is (kept_room c.self.inside.lines c.replace_lines.new.lines c.self.inside.len c.replace_lines.auto.lines (λ k l lt. same_keeps _ _ (c.replace_lines.ensures.room k l lt)))

pub returns-in_err-replace_lines-clause-kept : goal.returns-in_err-replace_lines-clause-kept
returns-in_err-replace_lines-clause-kept c =
    let Q : ClassifiedAndRoom → Type 0 = λ k. k.room ≤ room_beside c.self.inside.len c.replace_lines.new.lines in
    on_err_anyway c.from_residual.result (subst Q c.self.view_is (kept_room c.self.inside.lines c.replace_lines.new.lines c.self.inside.len c.replace_lines.auto.lines (λ k l lt. same_keeps _ _ (c.replace_lines.ensures.room k l lt))))
