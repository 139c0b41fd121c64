use Rattle.std.proofs.Common.{ℕ, ◌<◌, get_or, Vec, Global}
use Rattle.questions.specs.declared.foreign.need.Need.{Need}
use Rattle.questions.proofs.laws.PlainLaws.{IsFree}
use Rattle.questions.proofs.foreign.need.are_free.Given as goal

abbrev pub invariant-loop-chain : goal.invariant-loop-chain
invariant-loop-chain l = (k : ℕ) (d : Vec (Vec Need Global) Global) → k < l.chain-index → IsFree (get_or l.chains k d)
