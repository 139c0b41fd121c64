use Rattle.std.proofs.Common.{ℕ, ◌<◌, get_or, IsTrue}
use Rattle.questions.specs.Foreign.{Agrees, Assignment, need_holds}
use Rattle.questions.specs.declared.foreign.need.Need.{Need}
use Rattle.questions.proofs.foreign.need.meeting.Given as goal

abbrev pub invariant-loop-wanted : goal.invariant-loop-wanted
invariant-loop-wanted l = record {
  all : (a : Assignment) → Agrees a l.initial.answers → ((k : ℕ) (d : Need) → k < l.wanted-index → IsTrue (need_holds a (get_or l.needs k d))) → Agrees a l.answers;
  own : (a : Assignment) → Agrees a l.answers → Agrees a l.initial.answers;
  met : (a : Assignment) → Agrees a l.answers → (k : ℕ) (d : Need) → k < l.wanted-index → IsTrue (need_holds a (get_or l.needs k d));
}
