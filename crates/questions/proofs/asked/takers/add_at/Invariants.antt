use Rattle.std.proofs.Common.{true}
use Rattle.questions.specs.Scopes.{table_of}
use Rattle.questions.specs.asked.Reason.{IsLed}
use Rattle.questions.specs.steps.Deciding.{AllTake, IsAsked}
use Rattle.questions.specs.steps.Takers.{Grows}
use Rattle.questions.proofs.laws.LetInLaws.{AreDone}
use Rattle.questions.proofs.asked.takers.add_at.Given as goal

abbrev pub invariant-loop-call : goal.invariant-loop-call
invariant-loop-call l = record {
  grows : Grows l.initial.takers l.takers;
  each : IsLed (table_of l.subject) l.step l.course.hook → AllTake l.subject l.step (IsAsked (table_of l.subject) l.step true) l.initial.takers → AllTake l.subject l.step (IsAsked (table_of l.subject) l.step true) l.takers;
  done : AreDone l.subject l.step l.call-items l.course.hook l.takers l.call-index;
}
