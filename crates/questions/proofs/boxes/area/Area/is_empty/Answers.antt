use Rattle.std.proofs.Common.{arith}
use Rattle.rules.proofs.laws.BoxLaws.{box_long}
use Rattle.rules.specs.Boxed.{IsBox}
use Rattle.questions.proofs.laws.AreaLaws.{no_numbers, numbers_from}
use Rattle.questions.proofs.boxes.area.Area.is_empty.Goals as goal

whole : (c : goal.After-some_bare) → IsBox c.sets.result.now
whole c = rw c.sets.ensures.value c.sets.ensures.whole

pub returns-clause-none : goal.returns-clause-none
returns-clause-none c = λ t numbers h. (let w = c.some_bare.ensures.none t in no_numbers c.sets.result.now numbers w.0 w.1 (whole c) w.2 (rw (← w.3) at w.4) (rw c.sets.ensures.value h))

pub returns-clause-some : goal.returns-clause-some
returns-clause-some c = λ f. rw (← c.sets.ensures.value) (numbers_from c.sets.result.now (whole c) (λ k d lt. c.some_bare.ensures.some f k d (omega (arith, lt, box_long c.sets.result.now (whole c)))))
