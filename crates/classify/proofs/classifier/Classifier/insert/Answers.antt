use Rattle.std.proofs.Common.{get_or, ◌<◌, arith, ap, length, ◌+◌, ◌-◌, ◌≤◌, List, ℕ, subst, ◌≡◌, ◌∙◌, sym, rules, Bool}
use Rattle.std.proofs.lemmas.Bool.{false≢true}
use Rattle.fields.specs.declared.numbers.field.TheConstants.{FIELDS}
use Rattle.fields.specs.numbers.Spans.{SpanSet}
use Rattle.classify.specs.steps.Kept.{IsEverything}
use Rattle.classify.specs.Classifier.{Classified, ClassifiedAndRoom, IsClassifierOf, HasNoNewCut}
use Rattle.classify.specs.steps.Fields.{most_boxes, room_beside}
use Rattle.classify.proofs.laws.classifier.ClassifierLaws.{no_set, classifier_with, sound_lines, still_sound, kept_shown, same_shown, no_new_cuts, on_err_anyway, each_line, used_room, kept_room, room_in_word}
use Rattle.classify.proofs.laws.classifier.WholeLaws.{whole_inserted, whole_same}
use Rattle.classify.proofs.laws.classifier.RuleLaws.{rules_inserted}
use Rattle.classify.proofs.classifier.Classifier.insert.Goals as goal

pub insert_lines-requires-clause-sound : goal.insert_lines-requires-clause-sound
insert_lines-requires-clause-sound c =
    let n : length c.self.inside.lines ≡ FIELDS = c.self.invariant.0.fields in
    sound_lines c.self.inside.lines c.spans.result.now c.args.boxed c.self.inside.len n c.spans.ensures.value c.spans.ensures.whole c.self.invariant.0

pub invariant_of-self-2 : goal.invariant_of-self-2
invariant_of-self-2 c =
    let n : length c.self.inside.lines ≡ FIELDS = c.self.invariant.0.fields in
    let m : length c.insert_lines.new.lines ≡ length c.self.inside.lines = c.insert_lines.auto.lines in
    let sound = sound_lines c.self.inside.lines c.spans.result.now c.args.boxed c.self.inside.len n c.spans.ensures.value c.spans.ensures.whole c.self.invariant.0 in (
      still_sound c.insert_lines.new.lines c.spans.result.now c.args.boxed (c.self.inside.len + 1) (m ∙ n) c.spans.ensures.value c.spans.ensures.whole (omega arith)
          (λ k s l lt. c.in_ok-insert_lines.ensures.sound k s l (omega arith)) (c.insert_lines.ensures.margin c.self.invariant.0.margin),
      λ k l lt on. (let s : SpanSet = no_set in
          let lt' : k < length c.self.inside.lines = omega arith in
          let was = (c.unmark.ensures k s).0 on in
          let P : List SpanSet → Type 0 = λ spans. IsEverything (get_or spans k s) in
          whole_inserted c.self.inside.len c.args.at (get_or c.spans.result.now k s) (get_or c.self.inside.lines k l) (get_or c.insert_lines.new.lines k l) (sound k s l lt') (c.self.invariant.1 k l lt' was.0)
          (subst P (c.spans-2.ensures.value ∙ sym c.spans.ensures.value) was.1) (c.in_ok-insert_lines.ensures.ok k s l lt')),
      c.others-self-inside.ensures,
    )

pub returns-clause-boxes : goal.returns-clause-boxes
returns-clause-boxes c boxes h =
    let n : length c.self.inside.lines ≡ FIELDS = c.self.invariant.0.fields in
    let m : length c.insert_lines.new.lines ≡ length c.self.inside.lines = c.insert_lines.auto.lines in
    let P : Classified → Type 0 = λ k. IsClassifierOf boxes k in
    classifier_with c.self.inside.lines c.insert_lines.new.lines c.spans.result.now c.args.boxed boxes c.self.inside.len c.args.at n m c.spans.ensures.value c.spans.ensures.whole
    (omega (arith, c.requires, ap (λ (k : ClassifiedAndRoom). k.shown.len) c.self.view_is)) c.in_ok-insert_lines.ensures.ok (subst P (sym (ap (λ (k : ClassifiedAndRoom). k.shown) c.self.view_is)) h)

pub returns-clause-rules : goal.returns-clause-rules
returns-clause-rules c rule is rules h = rules_inserted rules c.args.at rule c.args.boxed c.args.self.now.shown _ (returns-clause-boxes c) h is

pub invariant_of-self : goal.invariant_of-self
invariant_of-self c = (
  kept_shown c.self.inside.lines c.insert_lines.new.lines c.self.inside.len c.insert_lines.auto.lines c.in_err-insert_lines.ensures.err (c.insert_lines.ensures.margin c.self.invariant.0.margin) c.self.invariant.0,
  λ k l lt on. (let lt' : k < length c.self.inside.lines = omega (arith, c.insert_lines.auto.lines) in
      whole_same (get_or c.self.inside.lines k l) (get_or c.insert_lines.new.lines k l) (c.in_err-insert_lines.ensures.err k l lt') (c.self.invariant.1 k l lt' on)),
  c.self.invariant.2,
)

pub returns-in_err-insert_lines-clause-err : goal.returns-in_err-insert_lines-clause-err
returns-in_err-insert_lines-clause-err c =
    let m : length c.insert_lines.new.lines ≡ length c.self.inside.lines = c.insert_lines.auto.lines in
    on_err_anyway c.from_residual.result (
    ap (λ (lines : List (List (ℕ × List Bool))). record { len = c.self.inside.len; lines = lines }) (same_shown c.self.inside.lines c.insert_lines.new.lines m c.in_err-insert_lines.ensures.err) ∙ ap (λ (k : ClassifiedAndRoom). k.shown) c.self.view_is)

pub returns-then-self-ge-MOST_BITS-clause-there : goal.returns-then-self-ge-MOST_BITS-clause-there
returns-then-self-ge-MOST_BITS-clause-there c room none =
    let some : room_beside c.self.inside.len c.self.inside.lines ≡ c.args.self.now.room = ap (λ (k : ClassifiedAndRoom). k.room) c.self.view_is in
    absurd (omega (arith, (each_line 1 (most_boxes - c.self.inside.len) c.self.inside.lines (omega arith)).0))

pub returns-in_err-insert_lines-clause-there : goal.returns-in_err-insert_lines-clause-there
returns-in_err-insert_lines-clause-there c room none =
    let n : length c.self.inside.lines ≡ FIELDS = c.self.invariant.0.fields in
    let some : room_beside c.self.inside.len c.self.inside.lines ≡ c.args.self.now.room = ap (λ (k : ClassifiedAndRoom). k.room) c.self.view_is in
    let each = each_line 1 (most_boxes - c.self.inside.len) c.self.inside.lines (omega arith) in
    let P : Classified → Type 0 = λ k. HasNoNewCut c.args.boxed k in
    let cuts = no_new_cuts c.self.inside.lines c.spans.result.now c.args.boxed c.self.inside.len n c.spans.ensures.value c.spans.ensures.whole (subst P (sym (ap (λ (k : ClassifiedAndRoom). k.shown) c.self.view_is)) none) in
    absurd (false≢true (c.in_err-insert_lines.ensures.there (λ k s l lt. record { cuts = cuts k s l lt; room = each.1 k l lt })))

pub returns-then-self-ge-MOST_BITS-clause-part : goal.returns-then-self-ge-MOST_BITS-clause-part
returns-then-self-ge-MOST_BITS-clause-part c part none = returns-then-self-ge-MOST_BITS-clause-there c (room_in_word c.self.inside.lines c.self.inside.len c.args.self.now c.self.invariant.0 c.self.view_is part) none

pub returns-in_err-insert_lines-clause-part : goal.returns-in_err-insert_lines-clause-part
returns-in_err-insert_lines-clause-part c part none = returns-in_err-insert_lines-clause-there c (room_in_word c.self.inside.lines c.self.inside.len c.args.self.now c.self.invariant.0 c.self.view_is part) none

pub returns-clause-room : goal.returns-clause-room
returns-clause-room c none =
    let Q : ClassifiedAndRoom → Type 0 = λ k. k.room ≤ room_beside (c.self.inside.len + 1) c.insert_lines.new.lines + 1 in
    subst Q c.self.view_is (used_room c.self.inside.lines c.insert_lines.new.lines c.self.inside.len c.insert_lines.auto.lines c.in_ok-insert_lines.ensures.room)

pub returns-in_err-insert_lines-clause-kept : goal.returns-in_err-insert_lines-clause-kept
returns-in_err-insert_lines-clause-kept c =
    let Q : ClassifiedAndRoom → Type 0 = λ k. k.room ≤ room_beside c.self.inside.len c.insert_lines.new.lines in
    on_err_anyway c.from_residual.result (subst Q c.self.view_is (kept_room c.self.inside.lines c.insert_lines.new.lines c.self.inside.len c.insert_lines.auto.lines c.in_err-insert_lines.ensures.back))
