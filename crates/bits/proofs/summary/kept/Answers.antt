use Rattle.std.proofs.Common.{arith}
use Rattle.bits.proofs.laws.ShiftLaws.{kept_mark}
use Rattle.bits.proofs.summary.kept.Goals as goal

pub returns : goal.returns
returns c = λ k lt on. kept_mark c.args.summary c.div_ceil.result k (omega (arith, c.div_ceil.ensures)) (omega (arith, c.div_ceil.ensures)) on
