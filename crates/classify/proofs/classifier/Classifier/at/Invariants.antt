use Rattle.std.proofs.Common.{◌≡◌, length, map}
use Rattle.fields.specs.declared.numbers.field.TheConstants.{FIELDS}
use Rattle.classify.specs.steps.Fields.{shown_line}
use Rattle.classify.specs.steps.CommonPlaces.{AreAtPoint}
use Rattle.classify.proofs.classifier.Classifier.at.Given as goal

abbrev pub invariant-loop-i : goal.invariant-loop-i
invariant-loop-i l = record {
  long : length l.places ≡ FIELDS;
  at : AreAtPoint (map shown_line l.self-inside.lines) l.point l.others l.places l.i;
}
