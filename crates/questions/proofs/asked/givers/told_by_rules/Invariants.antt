use Rattle.std.proofs.Common.{◌≡◌, ◌<◌, true, Contains}
use Rattle.fields.specs.Packet.{PacketView as Packet}
use Rattle.table.specs.declared.verdict.Verdict.{Verdict}
use Rattle.table.specs.declared.verdict.Verdict.TheVariants.{TooLong}
use Rattle.table.specs.declared.walk.trail.Step.{Step}
use Rattle.table.specs.walk.Walk.{end_verdict}
use Rattle.questions.specs.Scopes.{table_of}
use Rattle.questions.specs.steps.Claimed.{IsGiver, NoneComes}
use Rattle.questions.proofs.asked.givers.told_by_rules.Given as goal

abbrev pub invariant-loop-place : goal.invariant-loop-place
invariant-loop-place l =
    l.clear ≡ true → record {
      short : Contains l.fn.forbidden TooLong → ⊥;
      other : (policy : Verdict) → ((p : Packet) → p.hook ≡ l.fn.given.hook → end_verdict (table_of l.fn.subject) p ≡ policy) → Contains l.fn.forbidden policy → ⊥;
      none : (step : Step) → step.chain < l.place → IsGiver (table_of l.fn.subject) l.fn.forbidden step → NoneComes l.fn.subject l.fn.given.hook l.starts.items step;
    }
