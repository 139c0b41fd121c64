-- Boxes on their way through the table, and those that are at its end.
use Rattle.std.specs.Prelude.{◌≡◌, ◌⊎◌, ℕ, ◌+◌, ◌-◌, ◌<◌, List, [], ◌∷◌, ◌++◌, length, map, reverse, slice_get, slice_index_or, All, Any, IfSome, IsTrue}
use Rattle.fields.specs.declared.packet.hook.Hook.{Hook}
use Rattle.fields.specs.numbers.Spans.{SpanSet}
use Rattle.fields.specs.Hook.{name as hook_name}
use Rattle.fields.specs.Packet.{PacketView as Packet}
use Rattle.rules.specs.rule.Rules.{Rule, empty_rule}
use Rattle.table.specs.chains.Table.{Chain, Table, chain_at, names_of}
use Rattle.table.specs.declared.verdict.Verdict.{Verdict}
use Rattle.table.specs.declared.walk.trail.Step.{Step}
use Rattle.table.specs.walk.Cases.{Stage, Under, GoesTo}
use Rattle.table.specs.walk.Walk.{Rest, Entry, end_verdict, whole}
use Rattle.questions.specs.boxes.Boxes.{IsAtHook}
use Rattle.questions.specs.boxes.Cut.{IsAllowedIn, IsInSome}
use Rattle.questions.specs.Foreign.{Agrees, AreAsked, Assignment}
use Rattle.questions.specs.declared.foreign.answers.Answer.{Answer}
use Rattle.questions.specs.declared.foreign.need.Need.{Need}
use Rattle.questions.specs.Leaves.{name_at}
use Rattle.questions.specs.Scopes.{EndsUnder, IsOf, IsSurely, Known, ShowsUnder, entries_by, is_met}
use Rattle.questions.specs.declared.walking.task.Pending.{Pending}
use Rattle.questions.specs.declared.walking.scope.Scope.{Scope}
use Rattle.questions.specs.declared.walking.task.Leaf.{Leaf}
use Rattle.questions.specs.declared.walking.task.Task.{Task}
use Rattle.questions.specs.declared.walking.front.Front.{Front}

-- what is left of a chain
abbrev pub rest_of : List Chain → Pending → Rest
rest_of chains at = record { chain = name_at chains at.chain; passed = at.passed }

-- what is left of those that wait, the newest first
abbrev pub rests_of : List Chain → List Pending → List Rest
rests_of chains waiting = map (rest_of chains) (reverse waiting)

-- what is left of the chain after its next rule
abbrev pub behind : Pending → Pending
behind at = record { chain = at.chain; passed = at.passed + 1 }

-- its next rule
abbrev pub rule_ahead : Table → Pending → Rule
rule_ahead t at = slice_index_or (chain_at t at.chain).rules at.passed empty_rule

-- if the newest chain has a next rule, the task's box has numbers that it allows
abbrev pub StandsAtOne : Table → Task → Type 0
StandsAtOne t task =
    (below : List Pending) (at : Pending) → task.rests.items ≡ below ++ at ∷ [] → at.passed < length (chain_at t at.chain).rules
    → IsAllowedIn (rule_ahead t at) task.scope.area

-- the walk of a packet gets to a stage
abbrev pub Reaches : Table → Packet → Stage → Type 0
Reaches t p stage =
    (n : ℕ) × GoesTo n t.chains (end_verdict t p) p.values (Under (whole (hook_name p.hook) ∷ []) []) stage

-- the packet is one of the scope, and its walk gets to a stage
pub record Stands (t : Table) (known : Known) (p : Packet) (scope : Scope) (stage : Stage) : Type 0 where
  pub own : IsOf known p scope
  pub reaches : Reaches t p stage

-- where the walks of a task are
abbrev pub stage_of : Known → List Chain → Task → Stage
stage_of known chains task = Under (rests_of chains task.rests.items) (entries_by known chains task.trail.items)

-- where they are with what is left of one more chain
abbrev pub stage_at : Known → List Chain → Pending → Task → Stage
stage_at known chains at task = Under (rest_of chains at ∷ rests_of chains task.rests.items) (entries_by known chains task.trail.items)

-- all holds that the last rule of a trail needs
abbrev pub IsLastMet : Known → List Step → Type 0
IsLastMet known trail = IfSome (slice_get trail (length trail - 1)) (λ step. IsTrue (is_met known step))

-- a task is as this one, but perhaps with more answers
pub record IsSettled (task next : Task) : Type 0 where
  pub area : next.scope.area ≡ task.scope.area
  pub answers : (a : Assignment) → Agrees a next.scope.answers → Agrees a task.scope.answers
  pub rests : next.rests ≡ task.rests
  pub trail : next.trail ≡ task.trail

-- the packet is in a task
abbrev pub WaitsIn : Table → Known → Packet → Task → Type 0
WaitsIn t known p task = Stands t known p task.scope (stage_of known t.chains task)

-- the packet is in a task, with its walk at the task's stage, or in a leaf, with the leaf's walk
abbrev pub IsAccounted : Table → Known → Packet → Front → Type 0
IsAccounted t known p front = Any (WaitsIn t known p) front.tasks.items ⊎ Any (EndsUnder t known p) front.leaves.items

-- the packet is one of the scope from which all others come, and its walk gets to a stage
abbrev pub Belongs : Table → Known → Scope → Packet → Stage → Type 0
Belongs t known start p stage = IsOf known p start × Reaches t p stage

-- if it is one of a task's scope, it fits the task's stage
abbrev pub FitsTask : Table → Known → Scope → Packet → Task → Type 0
FitsTask t known start p task = IsOf known p task.scope → Belongs t known start p (stage_of known t.chains task)

-- the packet is only in scopes of tasks whose stages it fits, and of leaves that show its walk
pub record IsFitting (t : Table) (known : Known) (start : Scope) (p : Packet) (front : Front) : Type 0 where
  pub tasks : All (FitsTask t known start p) front.tasks.items
  pub leaves : All (ShowsUnder t known start p) front.leaves.items

-- the chains of two tables have the same names
abbrev pub AreNamedAlike : Table → Table → Type 0
AreNamedAlike t other = names_of t.chains ≡ names_of other.chains

-- the chain is there
abbrev pub IsThere : List Chain → Pending → Type 0
IsThere chains at = at.chain < length chains

-- all chains that wait are there
abbrev pub AreThere : List Chain → Task → Type 0
AreThere chains task = All (IsThere chains) task.rests.items

-- of all tasks
abbrev pub AllThere : List Chain → Front → Type 0
AllThere chains front = All (AreThere chains) front.tasks.items

-- a packet that can be at its hook, where the policy is this
pub record IsAsked (t : Table) (policy : Verdict) (p : Packet) : Type 0 where
  pub at_hook : IsAtHook p
  pub ends : end_verdict t p ≡ policy

-- each packet that was accounted for still is; all chains that wait are still there; and rules that decide leaves still have all that they need
pub record Keeps (t : Table) (known : Known) (old new : Front) : Type 0 where
  pub kept : (p : Packet) → IsAccounted t known p old → IsAccounted t known p new
  pub there : AllThere t.chains old → AllThere t.chains new
  pub decided : All (IsSurely known) old.leaves.items → All (IsSurely known) new.leaves.items

-- each packet of the scope whose walk gets to the stage is accounted for, and so is each that was before; and a packet that was only in scopes
-- that fit it still is
pub record Moves (t : Table) (known : Known) (policy : Verdict) (scope : Scope) (stage : Stage) (old new : Front) : Type 0 where
  pub moved : (p : Packet) → IsAsked t policy p → Stands t known p scope stage → IsAccounted t known p new
  pub fits : (start : Scope) (p : Packet) → IsAsked t policy p → (IsOf known p scope → Belongs t known start p stage) → IsFitting t known start p old → IsFitting t known start p new
  pub keeps : Keeps t known old new

-- the packet is in one of some boxes, and the answers are right
pub record IsOfSome (known : Known) (p : Packet) (boxes : List (List SpanSet)) (answers : List Answer) : Type 0 where
  pub inside : IsInSome boxes p.values
  pub agrees : Agrees known.holds answers

-- the same of the packets in some boxes
pub record PassesOver (t : Table) (known : Known) (policy : Verdict) (boxes : List (List SpanSet)) (answers : List Answer) (stage : Stage) (old new : Front) : Type 0 where
  pub passed : (p : Packet) → IsAsked t policy p → IsOfSome known p boxes answers → Reaches t p stage → IsAccounted t known p new
  pub fits : (start : Scope) (p : Packet) → IsAsked t policy p → (IsOfSome known p boxes answers → Belongs t known start p stage) → IsFitting t known start p old → IsFitting t known start p new
  pub keeps : Keeps t known old new

-- the rule just before a place, as an entry of the trail
abbrev pub entry_before : List Chain → Pending → Entry
entry_before chains at = record { chain = name_at chains at.chain; number = at.passed }

-- each packet of a scope that can be at the hook is accounted for, and only in scopes that fit it; all chains that wait are there; and rules that
-- decide leaves have all that they need
pub record Begins (t : Table) (known : Known) (hook : Hook) (scope : Scope) (front : Front) : Type 0 where
  pub all : (p : Packet) → IsAtHook p → p.hook ≡ hook → IsOf known p scope → IsAccounted t known p front
  pub fits : (p : Packet) → IsAtHook p → p.hook ≡ hook → IsFitting t known scope p front
  pub there : AllThere t.chains front
  pub decided : All (IsSurely known) front.leaves.items

-- ---- Which conditions their answers are about.

-- each answer of a task or a leaf was given, or is about a condition that some rule needs
pub record AllAsked (needs : List (List (List Need))) (given : List Answer) (front : Front) : Type 0 where
  pub tasks : All (λ (task : Task). AreAsked needs given task.scope.answers) front.tasks.items
  pub leaves : All (λ (leaf : Leaf). AreAsked needs given leaf.answers) front.leaves.items

-- what is done with a task of these answers keeps that
abbrev pub KeepsAsked : List (List (List Need)) → List Answer → Front → Front → Type 0
KeepsAsked needs answers old new = (given : List Answer) → AreAsked needs given answers → AllAsked needs given old → AllAsked needs given new
