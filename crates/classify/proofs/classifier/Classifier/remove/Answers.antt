use Rattle.std.proofs.Common.{arith, get_or, ap, length, ◌-◌, ◌<◌, ◌≡◌, ◌∙◌, sym, subst, rules}
use Rattle.std.specs.Prelude.{slice_index}
use Rattle.fields.specs.declared.numbers.field.TheConstants.{FIELDS}
use Rattle.classify.specs.Classifier.{Classified, ClassifiedAndRoom, IsClassifierOf}
use Rattle.classify.specs.steps.Fields.{tops, room_beside}
use Rattle.classify.proofs.laws.classifier.ClassifierLaws.{classifier_without, freed_room, margin_left}
use Rattle.classify.proofs.laws.classifier.WholeLaws.{whole_removed}
use Rattle.classify.proofs.laws.classifier.RuleLaws.{rules_removed}
use Rattle.classify.proofs.classifier.Classifier.remove.Goals as goal

pub remove_lines-requires : goal.remove_lines-requires
remove_lines-requires c k l lt =
    let sound = c.self.invariant.0.sound k l lt in
    (omega (arith, c.requires, sound.bits, ap (λ (k : ClassifiedAndRoom). k.shown.len) c.self.view_is), sound.differ)

pub invariant_of-self : goal.invariant_of-self
invariant_of-self c = (
  record {
    few = omega (arith, c.self.invariant.0.few);
    fields = c.remove_lines.auto.lines ∙ c.self.invariant.0.fields;
    sound = λ k l lt.
        (let lt' : k < length c.self.inside.lines = omega (arith, c.remove_lines.auto.lines) in
        let was = c.self.invariant.0.sound k l lt' in
        let is = (c.remove_lines.ensures k l lt').sound (slice_index tops k) was.rising in
        record { rising = is.rising; differ = is.differ; bits = omega (arith, is.bits, was.bits) });
    margin = margin_left c.args.at _ _ c.remove_lines.auto.lines (λ k l lt. (c.remove_lines.ensures k l lt).margin) c.self.invariant.0.margin;
  },
  λ k l lt on. (let lt' : k < length c.self.inside.lines = omega (arith, c.remove_lines.auto.lines) in
      whole_removed (slice_index tops k) c.self.inside.len c.args.at (get_or c.self.inside.lines k l) (get_or c.remove_lines.new.lines k l) (c.self.invariant.0.sound k l lt') (c.self.invariant.1 k l lt' on) (c.remove_lines.ensures k l lt')),
  c.self.invariant.2,
)

pub returns-clause-boxes : goal.returns-clause-boxes
returns-clause-boxes c boxes h =
    let n : length c.self.inside.lines ≡ FIELDS = c.self.invariant.0.fields in
    let m : length c.remove_lines.new.lines ≡ length c.self.inside.lines = c.remove_lines.auto.lines in
    let P : Classified → Type 0 = λ k. IsClassifierOf boxes k in
    classifier_without c.self.inside.lines c.remove_lines.new.lines boxes c.self.inside.len c.args.at n m (omega (arith, c.requires, ap (λ (k : ClassifiedAndRoom). k.shown.len) c.self.view_is)) c.remove_lines.ensures (subst P (sym (ap (λ (k : ClassifiedAndRoom). k.shown) c.self.view_is)) h)

pub returns-clause-rules : goal.returns-clause-rules
returns-clause-rules c rules h = rules_removed rules c.args.at c.args.self.now.shown _ (returns-clause-boxes c) h

pub returns-clause-room : goal.returns-clause-room
returns-clause-room c =
    let len : c.self.inside.len ≡ c.args.self.now.shown.len = ap (λ (k : ClassifiedAndRoom). k.shown.len) c.self.view_is in
    let P : ClassifiedAndRoom → Type 0 = λ k. k.room < room_beside (c.self.inside.len - 1) c.remove_lines.new.lines in
    subst P c.self.view_is (freed_room c.self.inside.lines c.remove_lines.new.lines c.self.inside.len (omega (arith, c.requires)) c.self.invariant.0.few c.remove_lines.auto.lines
    (λ k l lt. (c.remove_lines.ensures k l lt).room))
