use Rattle.std.proofs.Common.{◌≡◌, ◌⊎◌, ℕ, ◌<◌, true, false, get_or}
use Rattle.fields.specs.declared.packet.hook.Hook.{Hook}
use Rattle.fields.specs.Hook.{all_hooks}
use Rattle.questions.specs.asked.Always.{IsAlwaysDeadAt, MayLive}
use Rattle.questions.proofs.laws.WhyLaws.{AreShortAt}
use Rattle.questions.proofs.asked.rule.life_under.Given as goal

abbrev pub invariant-loop-hook : goal.invariant-loop-hook
invariant-loop-hook l = record {
  short : l.clear ≡ true → (k : ℕ) (h : Hook) → k < l.hook-index → AreShortAt l.subject l.step (get_or all_hooks k h);
  dead : l.clear ≡ true → (k : ℕ) (h : Hook) → k < l.hook-index → IsAlwaysDeadAt l.subject l.step (get_or all_hooks k h);
  each : (k : ℕ) (h : Hook) → k < l.hook-index → IsAlwaysDeadAt l.subject l.step (get_or all_hooks k h) ⊎ MayLive l.subject l.step l.fn.budget (get_or all_hooks k h);
  some : l.clear ≡ false → (h : Hook) × MayLive l.subject l.step l.fn.budget h;
}
