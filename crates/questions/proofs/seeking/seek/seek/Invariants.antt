use Rattle.std.proofs.Common.{◌≡◌, [], ◌∷◌, true, false, All}
use Rattle.questions.specs.Scopes.{whole_of}
use Rattle.questions.specs.asked.Unclear.{IsSoughtInVain}
use Rattle.questions.specs.declared.seeking.way.Way.{Way}
use Rattle.questions.specs.steps.Seeking.{AllWant, AreAllWays, AreTries, IsFirst, LiesIn}
use Rattle.questions.proofs.seeking.seek.seek.Given as goal

abbrev pub invariant-loop-tried : goal.invariant-loop-tried
invariant-loop-tried l = record {
  wanted : AllWant l.fn.step l.ways.items;
  inside : All (λ (way : Way). LiesIn l.start way.scope) l.ways.items;
  all : l.clear ≡ true → AreAllWays l.subject l.start l.fn.step l.course.hook l.ways.items;
  tries : (first : Way) × IsFirst (whole_of l.subject) l.start l.fn.step first × AreTries l.tried (whole_of l.subject) (first ∷ []) l.ways.items;
  vain : l.clear ≡ false → IsSoughtInVain (whole_of l.subject) l.start l.fn.step l.course.hook l.course.budget;
}
