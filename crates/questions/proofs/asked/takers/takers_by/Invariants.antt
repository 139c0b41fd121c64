use Rattle.std.proofs.Common.{◌≡◌, ℕ, ◌<◌, get_or, AllPairs}
use Rattle.fields.specs.declared.packet.hook.Hook.{Hook}
use Rattle.fields.specs.Hook.{all_hooks}
use Rattle.table.specs.declared.walk.trail.Step.{Step}
use Rattle.questions.specs.Scopes.{table_of}
use Rattle.questions.specs.steps.Deciding.{AllTake, IsAsked, IsTakenAt}
use Rattle.questions.proofs.asked.takers.takers_by.Given as goal

abbrev pub invariant-loop-hook : goal.invariant-loop-hook
invariant-loop-hook l = record {
  hooks : (k : ℕ) (h : Hook) → k < l.hook-index → IsTakenAt l.subject l.fn.step (IsAsked (table_of l.subject) l.fn.step l.near) l.takers (get_or all_hooks k h);
  each : AllTake l.subject l.fn.step (IsAsked (table_of l.subject) l.fn.step l.near) l.takers;
  once : AllPairs (λ (a b : Step). a ≡ b → ⊥) l.takers.rules.items;
  apart : AllPairs (λ (a b : Hook). a ≡ b → ⊥) l.takers.policies.items;
}
