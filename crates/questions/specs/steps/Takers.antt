-- The packets that a rule matches, or would match with its needs, and which rules and policies decide some leaves.
use Rattle.std.specs.Prelude.{◌≡◌, ◌⊎◌, true, Option, None, List, All, AllPairs, Any, Contains, IfSome, MatchOption, ◌-◌, [], IsFalse, IsTrue}
use Rattle.fields.specs.declared.packet.hook.Hook.{Hook}
use Rattle.fields.specs.Packet.{PacketView as Packet, IsPacket}
use Rattle.rules.specs.rule.Allows.{allows_each, matches}
use Rattle.table.specs.chains.Table.{Table}
use Rattle.table.specs.declared.walk.trail.Step.{Step}
use Rattle.questions.specs.Ends.{rule_at, step_of}
use Rattle.questions.specs.boxes.Boxes.{HasOwnInterfaces, IsAtHook, IsIn}
use Rattle.questions.specs.declared.asked.reach.Given.{Given}
use Rattle.questions.specs.declared.asked.takers.Takers.{Takers}
use Rattle.questions.specs.declared.walking.task.Leaf.{Leaf}
use Rattle.questions.specs.Foreign.{Agrees, Assignment, all_hold, needs_at}
use Rattle.questions.specs.declared.foreign.need.Need.{Need}
use Rattle.questions.specs.declared.walking.scope.Scope.{Scope}
use Rattle.questions.specs.steps.Answered.{IsMeeting}

-- ---- The packets that a rule matches, and which rules and policies decide some leaves.

-- the packet can be at the hook and is there, and the rule matches it
pub record IsMatchedAt (t : Table) (step : Step) (hook : Hook) (p : Packet) : Type 0 where
  pub can : IsAtHook p
  pub there : p.hook ≡ hook
  pub matched : matches p.values (rule_at t step) ≡ true

-- the box has all packets at the hook that the rule matches, and only packets with interfaces that packets at the hook have and
-- with numbers that the rule allows
pub record IsBoxAt (t : Table) (step : Step) (hook : Hook) (given : Given) : Type 0 where
  pub there : given.hook ≡ hook
  pub all : (p : Packet) → IsMatchedAt t step hook p → IsIn given.area p
  pub only : (p : Packet) → IsPacket p → p.hook ≡ hook → IsIn given.area p → HasOwnInterfaces p × (allows_each p.values (rule_at t step) ≡ true)

-- another rule allows each number of the packet, if one is given
abbrev pub IsLetBy : Table → Option Step → Packet → Type 0
IsLetBy t by p = IfSome by (λ other. allows_each p.values (rule_at t other) ≡ true)

-- the box has all packets at the hook that the rule matches and this other one lets in, and only packets with interfaces that packets at the hook have
-- and with numbers that both allow
pub record IsBoxBy (t : Table) (step : Step) (by : Option Step) (hook : Hook) (given : Given) : Type 0 where
  pub there : given.hook ≡ hook
  pub all : (p : Packet) → IsMatchedAt t step hook p → IsLetBy t by p → IsIn given.area p
  pub only : (p : Packet) → IsPacket p → p.hook ≡ hook → IsIn given.area p → HasOwnInterfaces p × (allows_each p.values (rule_at t step) ≡ true) × IsLetBy t by p

-- this rule is among the deciders or, where no rule is given, the policy of the hook is
abbrev pub IsAmong : Takers → Hook → Option Step → Type 0
IsAmong takers hook by = MatchOption by (Contains takers.policies.items hook) (Contains takers.rules.items)

-- this rule, or the policy of this hook, decides the leaf, which has packets at the hook `own`
pub record IsByThis (own : Hook) (leaf : Leaf) (hook : Hook) (by : Option Step) : Type 0 where
  pub decides : step_of leaf ≡ by
  pub there : by ≡ None → hook ≡ own

-- the deciders, perhaps with more of them
pub record Grows (old new : Takers) : Type 0 where
  pub kept : (hook : Hook) (by : Option Step) → IsAmong old hook by → IsAmong new hook by
  pub once : AllPairs (λ a b. a ≡ b → ⊥) old.rules.items → AllPairs (λ a b. a ≡ b → ⊥) new.rules.items
  pub apart : AllPairs (λ a b. a ≡ b → ⊥) old.policies.items → AllPairs (λ a b. a ≡ b → ⊥) new.policies.items

-- the deciders, with what decides a leaf of packets at the hook `own`, and nothing else
pub record Takes (own : Hook) (leaf : Leaf) (old new : Takers) : Type 0 where
  pub grows : Grows old new
  pub added : IsAmong new own (step_of leaf)
  pub only : (hook : Hook) (by : Option Step) → IsAmong new hook by → IsAmong old hook by ⊎ IsByThis own leaf hook by

-- the deciders, with what decides each of the leaves, and nothing else
pub record TakesAll (own : Hook) (leaves : List Leaf) (old new : Takers) : Type 0 where
  pub grows : Grows old new
  pub added : All (λ leaf. IsAmong new own (step_of leaf)) leaves
  pub only : (hook : Hook) (by : Option Step) → IsAmong new hook by → IsAmong old hook by ⊎ Any (λ leaf. IsByThis own leaf hook by) leaves

-- ---- The packets that a rule with needs would match.

-- what the rule of a step needs
abbrev pub needs_of : List (List (List Need)) → Step → List Need
needs_of needs step = needs_at needs step.chain (step.number - 1)

-- the scope has the packets at the hook that the box of the rule has, and its answers are given just where all holds that the rule needs
abbrev pub IsScopeAt : Table → List (List (List Need)) → Step → Hook → Scope → Type 0
IsScopeAt t needs step hook scope =
    (given : Given) × IsBoxAt t step hook given × (given.area ≡ scope.area) × IsMeeting (needs_of needs step) [] scope.answers

-- the same of packets that another rule lets in, if one is given
abbrev pub IsScopeBy : Table → List (List (List Need)) → Step → Option Step → Hook → Scope → Type 0
IsScopeBy t needs step by hook scope =
    (given : Given) × IsBoxBy t step by hook given × (given.area ≡ scope.area) × IsMeeting (needs_of needs step) [] scope.answers

-- the rule is on the trail of the leaf, and all holds that it needs where the leaf's answers are right
abbrev pub IsSurelyOn : List Need → Step → Leaf → Type 0
IsSurelyOn needs step leaf = Contains leaf.trail.items step × ((a : Assignment) → Agrees a leaf.answers → IsTrue (all_hold a needs))

-- some assignment gives the leaf's answers, and either the rule isn't on its trail or something doesn't hold that the rule needs
abbrev pub IsMissed : List Need → Step → Leaf → Type 0
IsMissed needs step leaf = (a : Assignment) × Agrees a leaf.answers × (Contains leaf.trail.items step → IsFalse (all_hold a needs))
