use Rattle.std.proofs.Common.{◌≡◌, ℕ, length, map, take}
use Rattle.fields.specs.declared.numbers.field.TheConstants.{FIELDS}
use Rattle.classify.specs.steps.CommonPlaces.{AreRowsOf, rows_found, IsOfAll}
use Rattle.classify.specs.steps.Fields.{EachLine, shown_line}
use Rattle.classify.proofs.classifier.rows.lend.Given as goal

abbrev pub invariant-loop-i : goal.invariant-loop-i
invariant-loop-i l = record {
  long : length l.rows ≡ FIELDS;
  rows : (margin : ℕ) → EachLine (λ l. l.room.before ≡ margin) l.lines → AreRowsOf margin (rows_found (map shown_line l.lines) l.others l.places) l.i (take l.i l.rows);
  summed : IsOfAll l.summary (take l.i l.rows);
}
