use Rattle.std.proofs.Common.{refl}
use Rattle.questions.proofs.asked.exact.part_of.Goals as goal

pub returns-then-not-meet : goal.returns-then-not-meet
returns-then-not-meet c = λ numbers point own other. (rw (c.sets.ensures.value, c.sets-2.ensures.value) at (c.meet.ensures.none c.if-not-meet.true)) numbers own other

pub returns-then-is_empty : goal.returns-then-is_empty
returns-then-is_empty c = λ numbers point own other. c.is_empty.ensures.none c.if-is_empty.true numbers ((rw c.sets-3.ensures.value at c.in_ok-part.ensures).all numbers point own other)

pub returns : goal.returns
returns c = record {
  both = rw c.sets-3.ensures.value at c.in_ok-part.ensures;
  some = c.is_empty.ensures.some c.if-is_empty.false;
  answers = c.in_ok-answers.ensures;
  trail = rw c.as_slice.ensures.value at c.in_ok-trail.ensures;
  verdict = refl;
  by_policy = refl;
}
