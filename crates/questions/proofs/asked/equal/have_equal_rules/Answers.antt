use Rattle.std.proofs.Common.{refl, arith}
use Rattle.table.specs.chains.Table.{chain_at}
use Rattle.questions.proofs.laws.EqualLaws.{alike_all}
use Rattle.questions.proofs.asked.equal.have_equal_rules.Goals as goal

pub returns : goal.returns
returns c = (
  λ _. alike_all (chain_at c.args.old.now.table c.args.place).rules (chain_at c.args.new.now.table c.args.place).rules c.loop-passed.passed (omega arith) (omega arith) c.loop-passed.invariant,
  λ _. refl,
)
