-- Which rules and policies decide the packets that a rule matches where all holds that it needs.
use Rattle.std.specs.Prelude.{◌≡◌, true, Bool, List, Option, option_map, All, AllPairs, Any, Contains, MatchOption, IsTrue}
use Rattle.fields.specs.declared.packet.hook.Hook.{Hook}
use Rattle.fields.specs.Packet.{PacketView as Packet}
use Rattle.table.specs.chains.Table.{Table}
use Rattle.table.specs.declared.walk.trail.Step.{Step}
use Rattle.table.specs.walk.Walk.{walk}
use Rattle.questions.specs.Ends.{IsRule, decider_of, step_of}
use Rattle.questions.specs.Foreign.{Assignment}
use Rattle.questions.specs.Leaves.{entry_of}
use Rattle.questions.specs.Scopes.{answered, is_met, known_by, table_of}
use Rattle.questions.specs.asked.Reason.{IsDecidedAmong, IsDecidedBy, IsLed, IsLetIn, IsMeantUnder}
use Rattle.questions.specs.boxes.Boxes.{IsAtHook}
use Rattle.questions.specs.declared.asked.takers.Takers.{Takers}
use Rattle.questions.specs.declared.foreign.subject.Subject.{Subject}
use Rattle.questions.specs.declared.walking.task.Leaf.{Leaf}
use Rattle.questions.specs.steps.Takers.{Grows, IsAmong, IsLetBy, IsMatchedAt, TakesAll}

-- the packet can be at the hook and is there, the rule matches it, and all holds that the rule needs
pub record IsMatchedUnder (subject : Subject) (a : Assignment) (step : Step) (hook : Hook) (p : Packet) : Type 0 where
  pub matched : IsMatchedAt (table_of subject) step hook p
  pub held : IsTrue (is_met (known_by subject a) step)

-- the rule decides the packet's walk that decides the leaf, or the policy decides both
pub record EndsAs (t : Table) (p : Packet) (leaf : Leaf) : Type 0 where
  pub decides : decider_of (walk t p) ≡ option_map (entry_of t.chains) (step_of leaf)
  pub policy : (walk t p).by_policy ≡ leaf.by_policy

-- Of the packets that a rule would match, a predicate says which are asked about.

-- under some assignment, some of these packets at the hook is decided as the leaf is
abbrev pub IsWalked : Subject → Step → (Packet → Type 0) → Hook → Leaf → Type 0
IsWalked subject step Asked hook leaf = (a : Assignment) × (p : Packet) × IsMatchedUnder subject a step hook p × Asked p × EndsAs (answered subject a) p leaf

-- the rule is on the walk of none of these packets at the hook, under any assignment
abbrev pub IsOnNone : Subject → Step → (Packet → Type 0) → Hook → Type 0
IsOnNone subject step Asked hook =
    (a : Assignment) (p : Packet) → IsAtHook p → p.hook ≡ hook → Asked p → Contains (walk (answered subject a) p).trail (entry_of (answered subject a).chains step) → ⊥

-- whatever holds, the rule is on the walk of none of these packets at the hook, and each that it matches is decided as some leaf is; and some packet is
-- decided as each leaf is
pub record AreBefore (subject : Subject) (step : Step) (Asked : Packet → Type 0) (hook : Hook) (leaves : List Leaf) : Type 0 where
  pub dead : IsOnNone subject step Asked hook
  pub all : (a : Assignment) (p : Packet) → IsMatchedUnder subject a step hook p → Asked p → Any (EndsAs (answered subject a) p) leaves
  pub each : All (IsWalked subject step Asked hook) leaves

-- under some assignment, this rule, or the policy of this hook, decides such a packet that might come to the rule and would match it
abbrev pub TakesOne : Subject → Step → (Packet → Type 0) → Hook → Option Step → Type 0
TakesOne subject step Asked hook by =
    (a : Assignment) × (p : Packet) × IsMeantUnder subject a step p × Asked p
    × MatchOption by ((p.hook ≡ hook) × IsTrue (walk (answered subject a) p).by_policy)
    (λ taker. IsRule (table_of subject) taker × IsDecidedBy (answered subject a) p taker)

-- each of the deciders decides such a packet
abbrev pub AllTake : Subject → Step → (Packet → Type 0) → Takers → Type 0
AllTake subject step Asked takers = (hook : Hook) (by : Option Step) → IsAmong takers hook by → TakesOne subject step Asked hook by

-- whatever holds, the rule is on the walk of none of these packets at the hook and, where this leads to the rule's chain, those that it matches are
-- decided by one of these
pub record IsTakenAt (subject : Subject) (step : Step) (Asked : Packet → Type 0) (takers : Takers) (hook : Hook) : Type 0 where
  pub dead : IsOnNone subject step Asked hook
  pub decided : IsLed (table_of subject) step hook → (a : Assignment) (p : Packet) → IsMatchedUnder subject a step hook p → Asked p
      → IsDecidedAmong (answered subject a) takers p

-- the deciders, with those of the packets at a hook that another rule lets in, if one is given, and nobody else
abbrev pub AddsBy : Subject → Step → Option Step → Hook → Takers → Takers → Type 0
AddsBy subject step by hook old new = (leaves : List Leaf) × AreBefore subject step (IsLetBy (table_of subject) by) hook leaves × TakesAll hook leaves old new

-- if only the near ones are asked about: the packet may come to the rule's chain
abbrev pub IsAsked : Table → Step → Bool → Packet → Type 0
IsAsked t step near p = near ≡ true → IsLetIn t step p

-- the deciders, with those of these packets at a hook, and nobody else
pub record AddsAt (subject : Subject) (step : Step) (near : Bool) (hook : Hook) (old new : Takers) : Type 0 where
  pub grows : Grows old new
  pub taken : IsTakenAt subject step (IsAsked (table_of subject) step near) new hook
  pub each : IsLed (table_of subject) step hook → AllTake subject step (IsAsked (table_of subject) step near) old → AllTake subject step (IsAsked (table_of subject) step near) new

-- exactly the deciders decide these packets, of those that might come to the rule and would match it; the named rules are the table's, and nothing is
-- named twice
pub record AreTakersOf (subject : Subject) (step : Step) (near : Bool) (takers : Takers) : Type 0 where
  pub all : (a : Assignment) (p : Packet) → IsMeantUnder subject a step p → IsAsked (table_of subject) step near p → IsDecidedAmong (answered subject a) takers p
  pub each : AllTake subject step (IsAsked (table_of subject) step near) takers
  pub once : AllPairs (λ a b. a ≡ b → ⊥) takers.rules.items
  pub apart : AllPairs (λ a b. a ≡ b → ⊥) takers.policies.items
