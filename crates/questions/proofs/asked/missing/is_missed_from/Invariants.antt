use Rattle.questions.specs.Foreign.{Assignment}
use Rattle.questions.specs.Scopes.{answered, known_by, table_of}
use Rattle.questions.specs.steps.Candidates.{AreFor}
use Rattle.questions.specs.steps.Waiting.{AllThere, IsFitting}
use Rattle.questions.proofs.asked.missing.is_missed_from.Given as goal

abbrev pub invariant-loop : goal.invariant-loop
invariant-loop l = record {
  kept : AreFor (table_of l.subject) l.fn.start.area l.candidates;
  fits : (a : Assignment) → IsFitting (answered l.subject a) (known_by l.subject a) l.fn.start l.packet l.front;
  there : (a : Assignment) → AllThere (answered l.subject a).chains l.front;
}
