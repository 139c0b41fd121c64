use Rattle.std.proofs.Common.{refl, arith}
use Rattle.questions.proofs.laws.EqualLaws.{give_all}
use Rattle.questions.proofs.asked.equal.have_equal_policies.Goals as goal

pub returns : goal.returns
returns c = (
  λ _. give_all c.args.old.now.table.policies c.args.new.now.table.policies c.loop-place.place c.stands.ensures.sound.policies c.stands-2.ensures.sound.policies (omega arith) c.loop-place.invariant,
  λ _. refl,
)
