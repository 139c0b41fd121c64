use Rattle.questions.proofs.laws.TakerLaws.{scope_of_all, scope_of_some}
use Rattle.questions.specs.Scopes.{table_of}
use Rattle.questions.proofs.asked.takers.scope_by.Goals as goal

pub returns-in_default-by : goal.returns-in_default-by
returns-in_default-by c = rw c.in_default-by.is (scope_of_all (table_of c.args.subject.now) c.args.subject.now.needs.now c.args.step c.args.course.hook c.in-Some.scope (rw c.in-Some.is at c.in_ok-scope.ensures))

pub returns : goal.returns
returns c =
    rw c.in-Some-by.is (scope_of_some (table_of c.args.subject.now) c.args.subject.now.needs.now c.args.step c.in-Some-by.by c.args.course.hook c.in-Some.scope c.at.result.now c.in_ok-area.area
    (rw c.in-Some.is at c.in_ok-scope.ensures) c.at.ensures (rw c.spans.ensures.value at c.in_ok-area.ensures))
