use Rattle.std.proofs.Common.{ℕ, ◌<◌}
use Rattle.questions.specs.steps.Before.{IsMetThere, step_at}
use Rattle.questions.proofs.seeking.surely.are_met.Given as goal

abbrev pub invariant-loop-passed : goal.invariant-loop-passed
invariant-loop-passed l = (k : ℕ) → k < l.passed → IsMetThere l.approach.subject l.approach.packet.now l.approach.answers.now l.approach.wanted l.before.far.items l.before.back.items (step_at l.place k)
