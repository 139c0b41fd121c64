use Rattle.std.proofs.Common.{ℕ, ◌+◌, ◌≤◌}
use Rattle.questions.specs.steps.Sampled.{IsNameByte}
use Rattle.questions.proofs.sampling.interface.byte_above.Given as goal

abbrev pub invariant-loop-next : goal.invariant-loop-next
invariant-loop-next l = (other : ℕ) → IsNameByte other → l.byte + 1 ≤ other → other ≤ l.next → ⊥
