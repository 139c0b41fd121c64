use Rattle.std.proofs.Common.{ℕ, List, ◌-◌, ◌<◌, ◌≤◌}
use Rattle.fields.specs.numbers.Spans.{SpanSet}
use Rattle.questions.specs.steps.Straying.{IsApartIn}
use Rattle.questions.specs.steps.Candidates.{AreFor}
use Rattle.questions.specs.steps.Waiting.{rule_ahead}
use Rattle.questions.proofs.walking.ahead.next_place.Given as goal

abbrev pub invariant-loop-passed : goal.invariant-loop-passed
invariant-loop-passed l = record {
  low : l.at.passed ≤ l.passed;
  none : (start : List SpanSet) → AreFor l.subject.table.table start l.candidates → (k : ℕ) → l.at.passed ≤ k → k < l.passed
      → IsApartIn (rule_ahead l.subject.table.table (record { chain = l.at.chain; passed = k })) start l.area;
}

abbrev pub decreases-loop-passed : goal.decreases-loop-passed
decreases-loop-passed l = l.count - l.passed
