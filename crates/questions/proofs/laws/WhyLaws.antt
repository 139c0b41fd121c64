-- Why a rule is dead, and that no walk of the packets it would match is too long.
use Rattle.std.proofs.Common.{◌-◌, refl, ◌∙◌}
use Rattle.fields.specs.declared.packet.hook.Hook.{Hook}
use Rattle.fields.specs.Packet.{PacketView as Packet}
use Rattle.table.specs.declared.walk.trail.Step.{Step}
use Rattle.questions.specs.Foreign.{Assignment, needs_at}
use Rattle.questions.specs.Scopes.{table_of, answered}
use Rattle.questions.specs.asked.Reason.{IsLed, IsMeantUnder, AreNeverTooLongUnder}
use Rattle.questions.specs.declared.foreign.subject.Subject.{Subject}
use Rattle.questions.specs.steps.Takers.{IsMatchedAt}
use Rattle.questions.specs.Ends.{IsRule, rule_at}
use Rattle.questions.specs.asked.Always.{AreAlwaysShort}
use Rattle.questions.proofs.laws.ResolvedLaws.{resolved_is, rule_at_left}

-- ---- Walks of the packets that a rule would match.

-- where jumps and gotos lead from the hook to the rule's chain, no walk of a packet there that the rule matches is too long, whatever holds
abbrev pub AreShortAt : Subject → Step → Hook → Type 0
AreShortAt s step hook = IsLed (table_of s) step hook → AreAlwaysShort s step hook

-- a packet that the rule would match is one that it matches in what is left of the table
matched_left : (s : Subject) (a : Assignment) (step : Step) (p : Packet) → IsRule (table_of s) step → IsMeantUnder s a step p → IsMatchedAt (answered s a) step p.hook p
matched_left s a step p is meant =
    let own = needs_at s.needs.now step.chain (step.number - 1) in
    record {
      can = meant.meant.can;
      there = refl;
      matched = rw (← (rule_at_left s.needs.now a (table_of s) step is ∙ resolved_is a own (rule_at (table_of s) step) meant.held)) at meant.meant.matched;
    }

pub never_too_long : (s : Subject) (step : Step) → IsRule (table_of s) step → ((hook : Hook) → AreShortAt s step hook) → AreNeverTooLongUnder s step
never_too_long s step is short a p meant = short p.hook meant.meant.led a p (matched_left s a step p is meant)
