use Rattle.std.proofs.Common.{ℕ, ◌<◌}
use Rattle.questions.specs.steps.Before.{AreMetIn}
use Rattle.questions.proofs.seeking.surely.are_all_met.Given as goal

abbrev pub invariant-loop-place : goal.invariant-loop-place
invariant-loop-place l = (k : ℕ) → k < l.place → AreMetIn l.approach.subject l.approach.packet.now l.approach.answers.now l.approach.wanted l.before.far.items l.before.back.items k
