use Rattle.std.proofs.Common.{◌≡◌, ℕ, List, length, map}
use Rattle.questions.specs.Scopes.{table_of}
use Rattle.questions.specs.steps.Ending.{AreIdleMarks, items_in}
use Rattle.questions.proofs.laws.IdleLaws.{AreSparedTo}
use Rattle.questions.proofs.walking.idle.spared_in.Given as goal

abbrev pub invariant-loop-passed : goal.invariant-loop-passed
invariant-loop-passed l = record {
  long : length l.lists.items ≡ l.passed;
  each : (values : List ℕ) → AreIdleMarks (table_of l.subject) values l.marks → AreSparedTo (table_of l.subject) values l.subject.needs.now l.fn.place (map items_in l.lists.items);
}
