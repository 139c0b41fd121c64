use Rattle.std.proofs.Common.{ℕ, ◌<◌}
use Rattle.questions.specs.steps.Sampled.{HasNoKindWith}
use Rattle.questions.proofs.sampling.choice.kind_in.Given as goal

abbrev pub invariant-loop-protocol : goal.invariant-loop-protocol
invariant-loop-protocol l = (protocol : ℕ) → protocol < l.protocol → HasNoKindWith l.hook l.area protocol
