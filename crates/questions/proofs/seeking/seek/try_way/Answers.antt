use Rattle.std.proofs.Common.{inl, refl}
use Rattle.questions.specs.Scopes.{whole_of}
use Rattle.questions.specs.steps.Seeking.{TakesPlace}
use Rattle.questions.proofs.laws.WayLaws.{adds_none}
use Rattle.questions.proofs.seeking.seek.try_way.Goals as goal

-- a way without packets
pub returns-then-is_empty : goal.returns-then-is_empty
returns-then-is_empty c = (
  record { kept = λ a p h. h; taken = λ a p at there on may. absurd (c.is_empty.ensures.none c.if-is_empty.true p.values may.here.0); wanted = λ step is all. all },
  adds_none (TakesPlace (whole_of c.args.subject.now) c.args.way.now) c.args.ways.now.items,
)

pub returns-in-None : goal.returns-in-None
returns-in-None c = (refl, inl (c.is_empty.ensures.some c.if-is_empty.false, rw c.in-None.is at c.in_ok-sample_of.ensures))
