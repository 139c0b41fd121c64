use Rattle.std.proofs.Common.{◌≢◌, rules, sym, arith}
use Rattle.questions.proofs.asked.other.all_give.Goals as goal

pub returns-then-ne-clause-some : goal.returns-then-ne-clause-some
returns-then-ne-clause-some c =
    let other : c.leaf-item.result.verdict ≢ c.args.verdict = search rules in
    λ _. (c.loop-leaf.leaf-index, c.leaf-item.result, omega arith, sym c.leaf-item.is, other)
