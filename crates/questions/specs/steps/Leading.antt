-- The chains from which jumps and gotos lead to one, and the rules by which packets come into some chains.
use Rattle.std.specs.Prelude.{◌≡◌, ℕ, zero, suc, ◌<◌, Bool, true, false, List, [], ◌∷◌, Option, Some, None, length, slice_index_or, Contains}
use Rattle.classify.specs.Classifier.{IsPoint}
use Rattle.rules.specs.rule.Allows.{allows_each}
use Rattle.rules.specs.rule.Rules.{Rule}
use Rattle.table.specs.chains.Sound.{Leads}
use Rattle.table.specs.chains.Table.{Chain, Table, chain_at, chain_named_by, rules_of}
use Rattle.fields.specs.declared.packet.hook.Hook.{Hook}
use Rattle.fields.specs.Hook.{name as hook_name}
use Rattle.table.specs.declared.walk.trail.Step.{Step}
use Rattle.questions.specs.Ends.{rule_at, IsRule}
use Rattle.questions.specs.Leaves.{name_at}
use Rattle.questions.specs.declared.seeking.calls.Call.{Call}

-- ---- The chains from which jumps and gotos lead to a given chain, as marks.

-- the chain at a place is marked
abbrev pub IsMarked : List Bool → ℕ → Type 0
IsMarked marks place = slice_index_or marks place false ≡ true

-- how many chains are not marked
abbrev pub unmarked : List Bool → ℕ
unmarked [] = zero
unmarked (true ∷ marks) = unmarked marks
unmarked (false ∷ marks) = suc (unmarked marks)

-- the name is that of a marked chain
abbrev pub IsMarkedName : List Chain → List Bool → List ℕ → Type 0
IsMarkedName chains marks name = (j : ℕ) × (j < length chains) × IsMarked marks j × (name_at chains j ≡ name)

-- the rule names a marked chain
abbrev pub NamesMarked : List Chain → List Bool → Rule → Type 0
NamesMarked chains marks rule = (name : List ℕ) × (chain_named_by rule ≡ Some name) × IsMarkedName chains marks name

-- some numbers are allowed, field by field, by both rules
abbrev pub ShareNumbers : Rule → Rule → Type 0
ShareNumbers a b = (numbers : List ℕ) × IsPoint numbers × (allows_each numbers a ≡ true) × (allows_each numbers b ≡ true)

-- a rule counts if there are numbers that it and the given rule both allow; without a given rule each counts
abbrev pub Counts : Option Rule → Rule → Type 0
Counts None rule = Unit {0}
Counts (Some own) rule = ShareNumbers own rule

-- so many jumps and gotos of rules that count lead from one chain to another
abbrev pub PathBy : Table → Option Rule → ℕ → List ℕ → List ℕ → Type 0
PathBy t own zero a b = a ≡ b
PathBy t own (suc n) a b = (c : List ℕ) × ((rule : Rule) × Contains (rules_of t.chains a) rule × (chain_named_by rule ≡ Some c) × Counts own rule) × PathBy t own n c b

-- some rule of the chain at a place counts and names a marked chain
abbrev pub LeadsOn : Table → Option Rule → List Bool → ℕ → Type 0
LeadsOn t own marks place = (rule : Rule) × Contains (chain_at t place).rules rule × NamesMarked t.chains marks rule × Counts own rule

-- each chain with such a rule is marked
abbrev pub AreClosed : Table → Option Rule → List Bool → Type 0
AreClosed t own marks = (k : ℕ) → k < length t.chains → LeadsOn t own marks k → IsMarked marks k

-- if a rule counts that leads to a marked chain, its own is marked, too
abbrev pub IsClosedBy : Table → Option Rule → List Bool → Call → Type 0
IsClosedBy t own marks call = IsMarked marks call.to → Counts own (rule_at t call.by) → IsMarked marks call.by.chain

-- a path leads from each marked chain to the named one
abbrev pub AllLead : Table → Option Rule → List ℕ → List Bool → Type 0
AllLead t own name marks = (k : ℕ) → k < length t.chains → IsMarked marks k → (n : ℕ) × PathBy t own n (name_at t.chains k) name

-- the chain at a place is marked, each other marked chain leads to it by rules that count, and each chain with a rule that counts
-- and names a marked chain is marked
pub record AreSpread (t : Table) (own : Option Rule) (place : ℕ) (marks : List Bool) : Type 0 where
  pub long : length marks ≡ length t.chains
  pub there : IsMarked marks place
  pub each : AllLead t own (name_at t.chains place) marks
  pub closed : AreClosed t own marks

-- exactly the chains are marked from which a path leads to the named one
pub record AreLeading (t : Table) (name : List ℕ) (marks : List Bool) : Type 0 where
  pub long : length marks ≡ length t.chains
  pub each : (k : ℕ) → k < length t.chains → IsMarked marks k → Leads t.chains (name_at t.chains k) name
  pub all : (k : ℕ) → k < length t.chains → Leads t.chains (name_at t.chains k) name → IsMarked marks k

-- the marks, perhaps with more of them; if a path led from each marked chain to a named one, it still does
pub record Spreads (t : Table) (own : Option Rule) (old new : List Bool) : Type 0 where
  pub long : length new ≡ length old
  pub kept : (k : ℕ) → IsMarked old k → IsMarked new k
  pub each : (name : List ℕ) → AllLead t own name old → AllLead t own name new

-- ---- The rules by which packets come into some chains.

-- the names of the marked chains
abbrev pub marked_names : List Chain → List Bool → List (List ℕ)
marked_names [] marks = []
marked_names (chain ∷ chains) [] = []
marked_names (chain ∷ chains) (true ∷ marks) = chain.name ∷ marked_names chains marks
marked_names (chain ∷ chains) (false ∷ marks) = marked_names chains marks

-- a rule names a marked chain
pub record IsWay (t : Table) (marks : List Bool) (by : Step) : Type 0 where
  pub rule : IsRule t by
  pub names : NamesMarked t.chains marks (rule_at t by)

-- rules that allow some numbers that the rule allows too lead from a built-in chain to the rule's chain
abbrev pub IsOpen : Table → Step → Type 0
IsOpen t step = (hook : Hook) × (n : ℕ) × PathBy t (Some (rule_at t step)) n (hook_name hook) (chain_at t step.chain).name
