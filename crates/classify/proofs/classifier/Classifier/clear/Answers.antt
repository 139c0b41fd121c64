use Rattle.std.proofs.Common.{arith, get_or, length, ◌≡◌, ◌≤◌, ◌+◌, ◌∙◌, subst}
use Rattle.fields.specs.declared.numbers.field.TheConstants.{FIELDS}
use Rattle.classify.specs.steps.Fields.{room_beside}
use Rattle.classify.specs.Classifier.{ClassifiedAndRoom}
use Rattle.classify.proofs.laws.classifier.ClassifierLaws.{classifier_empty, kept_empty, room_of_all, none_before}
use Rattle.classify.proofs.laws.classifier.RuleLaws.{no_rules}
use Rattle.classify.proofs.laws.classifier.WholeLaws.{whole_empty}
use Rattle.classify.proofs.classifier.Classifier.clear.Goals as goal

pub invariant_of-self : goal.invariant_of-self
invariant_of-self c = (
  kept_empty c.clear_lines.new.lines (c.clear_lines.auto.lines ∙ c.self.invariant.0.fields) (λ k l lt. c.clear_lines.ensures.empty k l (omega (arith, c.clear_lines.auto.lines)))
      (none_before c.clear_lines.new.lines (λ k l lt. (c.clear_lines.ensures.room k l (omega (arith, c.clear_lines.auto.lines))).before)),
  λ k l lt _. whole_empty (get_or c.clear_lines.new.lines k l) (c.clear_lines.ensures.empty k l (omega (arith, c.clear_lines.auto.lines))),
  c.others-self-inside.ensures,
)

pub returns-clause-boxes : goal.returns-clause-boxes
returns-clause-boxes c =
    let n : length c.clear_lines.new.lines ≡ FIELDS = c.clear_lines.auto.lines ∙ c.self.invariant.0.fields in
    classifier_empty c.clear_lines.new.lines n (λ k l lt. c.clear_lines.ensures.empty k l (omega (arith, c.clear_lines.auto.lines)))

pub returns-clause-rules : goal.returns-clause-rules
returns-clause-rules c = no_rules _ (returns-clause-boxes c)

pub returns-clause-room : goal.returns-clause-room
returns-clause-room c =
    let P : ClassifiedAndRoom → Type 0 = λ k. k.room + k.shown.len ≤ room_beside 0 c.clear_lines.new.lines in
    subst P c.self.view_is (room_of_all c.self.inside.lines c.clear_lines.new.lines c.self.inside.len c.self.invariant.0 c.clear_lines.auto.lines c.clear_lines.ensures.room)
