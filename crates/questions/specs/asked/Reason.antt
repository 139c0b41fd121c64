-- Why a rule is dead, also where rules need conditions that this program doesn't know, and that walks of its packets are never too long.
use Rattle.std.specs.Prelude.{◌≡◌, ◌⊎◌, ℕ, true, List, Some, All, AllPairs, Any, Contains, IsFalse, IsTrue, ◌-◌, ◌≢◌}
use Rattle.fields.specs.declared.numbers.field.Field.{Field}
use Rattle.fields.specs.declared.packet.hook.Hook.{Hook}
use Rattle.fields.specs.Hook.{name as hook_name}
use Rattle.fields.specs.Packet.{PacketView as Packet, point}
use Rattle.rules.specs.rule.Allows.{allows, allows_each, matches}
use Rattle.rules.specs.rule.Rules.{Rule}
use Rattle.table.specs.chains.Sound.{Leads}
use Rattle.table.specs.chains.Table.{Table, chain_at, chain_named_by}
use Rattle.table.specs.declared.walk.trail.Step.{Step}
use Rattle.table.specs.walk.Walk.{walk}
use Rattle.table.specs.declared.verdict.Verdict.TheVariants.{TooLong}
use Rattle.questions.specs.Ends.{IsRule, decider_of, rule_at}
use Rattle.questions.specs.Leaves.{entry_of}
use Rattle.questions.specs.boxes.Boxes.{IsAtHook}
use Rattle.questions.specs.boxes.Calls.{IsCall}
use Rattle.questions.specs.declared.asked.reason.Reason.{Reason}
use Rattle.questions.specs.declared.asked.reason.Reason.TheVariants.{Impossible, Unreached, NoPacket, Excluded, Taken}
use Rattle.questions.specs.declared.asked.takers.Takers.{Takers}
use Rattle.questions.specs.steps.Leading.{IsOpen}
use Rattle.questions.specs.Foreign.{Assignment, all_hold, needs_at}
use Rattle.questions.specs.Scopes.{answered, table_of}
use Rattle.questions.specs.asked.Always.{IsAlwaysDead}
use Rattle.questions.specs.declared.foreign.subject.Subject.{Subject}

-- ---- What reasons speak of.

-- jumps and gotos lead from the hook's chain to the rule's chain
abbrev pub IsLed : Table → Step → Hook → Type 0
IsLed t step hook = Leads t.chains (hook_name hook) (chain_at t step.chain).name

-- the packet might come to the rule and would match it: it can be at its hook, jumps and gotos lead from there to the rule's chain,
-- and the rule matches it
pub record IsMeantFor (t : Table) (step : Step) (p : Packet) : Type 0 where
  pub can : IsAtHook p
  pub led : IsLed t step p.hook
  pub matched : matches p.values (rule_at t step) ≡ true

-- the packet may come to the rule's chain: walks begin there at its hook, or a rule that jumps or goes to the chain allows each of its numbers
abbrev pub IsLetIn : Table → Step → Packet → Type 0
IsLetIn t step p =
    (hook_name p.hook ≡ (chain_at t step.chain).name)
    ⊎ ((by : Step) × IsCall t (record { to = step.chain; by = by }) × (allows_each p.values (rule_at t by) ≡ true))

-- the rule allows no number that a packet can have on the field
abbrev pub IsImpossible : Rule → Field → Type 0
IsImpossible rule field = (p : Packet) → IsAtHook p → IsFalse (allows rule field (point p field))

-- on each field it allows a number that a packet can have
abbrev pub IsPossible : Rule → Type 0
IsPossible rule = (field : Field) → IsImpossible rule field → ⊥

-- no jumps and gotos lead from a built-in chain to the rule's chain
abbrev pub IsUnreached : Table → Step → Type 0
IsUnreached t step = (hook : Hook) → IsLed t step hook → ⊥

-- they lead there from one
abbrev pub IsReached : Table → Step → Type 0
IsReached t step = (hook : Hook) × IsLed t step hook

-- this rule decides the packet's walk
abbrev pub IsDecidedBy : Table → Packet → Step → Type 0
IsDecidedBy t p by = decider_of (walk t p) ≡ Some (entry_of t.chains by)

-- one of the named rules decides the packet's walk, or the policy of its hook does and is named
abbrev pub IsDecidedAmong : Table → Takers → Packet → Type 0
IsDecidedAmong t takers p = (Contains takers.policies.items p.hook × IsTrue (walk t p).by_policy) ⊎ Any (IsDecidedBy t p) takers.rules.items

-- a rule outside of some chains jumps or goes to one of them (iptables(8), TARGETS)
pub record Enters (t : Table) (within : List (List ℕ)) (by : Step) : Type 0 where
  pub rule : IsRule t by
  pub outside : Contains within (chain_at t by.chain).name → ⊥
  pub names : (name : List ℕ) × (chain_named_by (rule_at t by) ≡ Some name) × Contains within name

-- the rule's chain is one of some chains in which no walk begins; exactly the named rules enter them from outside; and no packet
-- that can be at its hook is matched both by one of these rules and by the rule
pub record IsExcluded (t : Table) (step : Step) (ways : List Step) : Type 0 where
  pub within : List (List ℕ)
  pub own : Contains within (chain_at t step.chain).name
  pub inner : (hook : Hook) → Contains within (hook_name hook) → ⊥
  pub all : (by : Step) → Enters t within by → Contains ways by
  pub each : All (Enters t within) ways
  pub none : (p : Packet) → IsAtHook p → (by : Step) → Enters t within by → IsTrue (matches p.values (rule_at t by)) → IsFalse (matches p.values (rule_at t step))

-- ---- Why a rule is dead, whatever holds of the conditions that this program doesn't know.

-- the packet might come to the rule and would match it, and all holds that the rule needs
pub record IsMeantUnder (subject : Subject) (a : Assignment) (step : Step) (p : Packet) : Type 0 where
  pub meant : IsMeantFor (table_of subject) step p
  pub held : IsTrue (all_hold a (needs_at subject.needs.now step.chain (step.number - 1)))

-- under some assignment there is such a packet
abbrev pub HasPacketUnder : Subject → Step → Type 0
HasPacketUnder subject step = (a : Assignment) × (p : Packet) × IsMeantUnder subject a step p

-- a packet that may come to the rule's chain is meant for the rule under some assignment
abbrev pub HasLetInUnder : Subject → Step → Type 0
HasLetInUnder subject step = (a : Assignment) × (p : Packet) × IsMeantUnder subject a step p × IsLetIn (table_of subject) step p

-- the packet is meant for the rule and may come to its chain; or none may under any assignment, and it is meant for it
pub record IsAtStakeUnder (subject : Subject) (a : Assignment) (step : Step) (p : Packet) : Type 0 where
  pub meant : IsMeantUnder subject a step p
  pub near : IsLetIn (table_of subject) step p ⊎ (HasLetInUnder subject step → ⊥)

-- under some assignment this rule decides such a packet
abbrev pub IsTakenByRuleUnder : Subject → Step → Step → Type 0
IsTakenByRuleUnder subject step by = (a : Assignment) × (p : Packet) × IsAtStakeUnder subject a step p × IsDecidedBy (answered subject a) p by

-- under some assignment the policy of this hook decides such a packet
abbrev pub IsTakenByPolicyUnder : Subject → Step → Hook → Type 0
IsTakenByPolicyUnder subject step hook =
    (a : Assignment) × (p : Packet) × IsAtStakeUnder subject a step p × (p.hook ≡ hook) × IsTrue (walk (answered subject a) p).by_policy

-- exactly the named rules and policies decide the packets that are at stake: each such packet is decided by one of them, whatever else holds, and each
-- of them decides such a packet under some assignment; the named rules are the table's, and nothing is named twice
pub record IsTakenUnder (subject : Subject) (step : Step) (takers : Takers) : Type 0 where
  pub all : (a : Assignment) (p : Packet) → IsAtStakeUnder subject a step p → IsDecidedAmong (answered subject a) takers p
  pub each : All (IsTakenByRuleUnder subject step) takers.rules.items
  pub policies : All (IsTakenByPolicyUnder subject step) takers.policies.items
  pub rules : All (IsRule (table_of subject)) takers.rules.items
  pub once : AllPairs (λ a b. a ≡ b → ⊥) takers.rules.items
  pub apart : AllPairs (λ a b. a ≡ b → ⊥) takers.policies.items

-- what a reason says of the rule, and that none before it holds: a packet that is meant for it refutes the first three; and the way to its chain is
-- open where rules lead there that allow, field by field, numbers that it allows
abbrev pub IsReasonUnder : Subject → Step → Reason → Type 0
IsReasonUnder subject step (Impossible field) = IsImpossible (rule_at (table_of subject) step) field
IsReasonUnder subject step Unreached = IsPossible (rule_at (table_of subject) step) × IsUnreached (table_of subject) step
IsReasonUnder subject step NoPacket =
    IsPossible (rule_at (table_of subject) step) × IsReached (table_of subject) step × (HasPacketUnder subject step → ⊥)
IsReasonUnder subject step (Excluded ways) = HasPacketUnder subject step × IsExcluded (table_of subject) step ways.items
IsReasonUnder subject step (Taken takers) = HasPacketUnder subject step × IsOpen (table_of subject) step × IsTakenUnder subject step takers

-- whatever holds, the rule is dead, for the first of these reasons: no packet has a number on a field that the rule allows; no jumps and gotos lead to its chain;
-- no packet is meant for it, or what it needs contradicts itself; packets come to its chain only by rules that match no packet that it matches; or
-- exactly these rules and policies decide the packets that are at stake where all holds that it needs
pub record ExplainsUnder (subject : Subject) (step : Step) (reason : Reason) : Type 0 where
  pub dead : IsAlwaysDead subject (entry_of (table_of subject).chains step)
  pub why : IsReasonUnder subject step reason

-- ---- Walks of the packets that a rule would match: where the rule is said to be dead, none is too long.

-- whatever holds, no packet that might come to the rule and would match it, and for which all holds that the rule needs, has a walk that is too long
abbrev pub AreNeverTooLongUnder : Subject → Step → Type 0
AreNeverTooLongUnder subject step = (a : Assignment) (p : Packet) → IsMeantUnder subject a step p → (walk (answered subject a) p).verdict ≢ TooLong
