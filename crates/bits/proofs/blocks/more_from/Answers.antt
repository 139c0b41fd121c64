use Rattle.std.proofs.Common.{ℕ, ◌+◌, arith}
use Rattle.bits.proofs.laws.BlockLaws.{written_from}
use Rattle.bits.proofs.blocks.more_from.Goals as goal

pub returns : goal.returns
returns c =
    let h = c.loop-k.invariant in
    written_from (λ (n : ℕ). n + c.args.by) c.args.at c.args.numbers.now c.loop-k.numbers h.as_long h.below (λ k ge lt. h.written k ge (omega (arith, lt, c.loop-k-test.false)))
