use Rattle.std.proofs.Common.{refl, arith}
use Rattle.questions.proofs.laws.EqualLaws.{alike_all, table_same}
use Rattle.questions.proofs.asked.equal.are_equal.Goals as goal

pub returns : goal.returns
returns c = (
  λ _. table_same c.args.old.now.table c.args.new.now.table (c.have_equal_policies.ensures.0 c.if-not-have_equal_policies.false)
      (alike_all c.args.old.now.table.chains c.args.new.now.table.chains c.loop-place.place (omega arith) (omega arith) c.loop-place.invariant),
  λ _. refl,
)
