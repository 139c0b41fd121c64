use Rattle.questions.specs.Foreign.{Assignment}
use Rattle.questions.specs.Scopes.{answered, known_by, table_of, whole_of}
use Rattle.questions.specs.steps.Candidates.{AreFor}
use Rattle.questions.specs.steps.Waiting.{AllAsked, Begins}
use Rattle.questions.specs.steps.Taken.{GetsTo}
use Rattle.questions.proofs.walking.engine.leaves_under.Given as goal

abbrev pub invariant-loop-taken : goal.invariant-loop-taken
invariant-loop-taken l = record {
  asked : AllAsked l.subject.needs.now l.fn.start.answers l.front;
  kept : AreFor (table_of l.subject) l.fn.start.area l.candidates;
  begins : (a : Assignment) → Begins (answered l.subject a) (known_by l.subject a) l.fn.hook l.fn.start l.front;
  gets : GetsTo (whole_of l.subject) l.fn.hook l.fn.start l.taken l.front;
}
