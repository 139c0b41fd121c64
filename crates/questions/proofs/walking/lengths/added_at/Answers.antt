use Rattle.std.proofs.Common.{arith}
use Rattle.table.specs.chains.Table.{chain_at}
use Rattle.questions.specs.steps.Lengths.{number_of}
use Rattle.questions.proofs.laws.LengthLaws.{sum_next}
use Rattle.questions.proofs.walking.lengths.added_at.Goals as goal

pub loop-passed-preserved : goal.loop-passed-preserved
loop-passed-preserved c =
    let t = c.args.table.now.table in
    sum_next (number_of t.chains c.args.numbers.now) (chain_at t c.args.place).rules c.loop-passed.passed c.rule.result.now c.loop-passed.sum c.added-more.result c.min-sum.result
    (omega (arith, c.loop-passed-test.true, c.rule_count-passed-end.ensures)) c.rule.ensures c.loop-passed.invariant c.added-more.ensures (omega (arith, c.saturating_add.ensures, c.min-sum.ensures))
