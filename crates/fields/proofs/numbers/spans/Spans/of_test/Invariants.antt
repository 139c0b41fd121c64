use Rattle.fields.proofs.laws.numbers.TestLaws.{Testing}
use Rattle.fields.proofs.numbers.spans.Spans.of_test.Given as goal

abbrev pub invariant-loop-x : goal.invariant-loop-x
invariant-loop-x g l = Testing (goal.F-post g l.test) l.top l.first l.x l.runs.items
