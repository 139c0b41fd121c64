-- How a claim about verdicts is told, box by box.
use Rattle.std.specs.Prelude.{◌≡◌, ◌⊎◌, ℕ, ◌<◌, List, [], length, slice_index_or, Option, Ok, All, Any, Contains, MatchOption}
use Rattle.fields.specs.declared.packet.hook.Hook.{Hook}
use Rattle.fields.specs.numbers.Spans.{SpanSet}
use Rattle.fields.specs.Packet.{PacketView as Packet, packet_of}
use Rattle.rules.specs.declared.rule.target.Target.{Target}
use Rattle.rules.specs.rule.Actions.{target_of}
use Rattle.table.specs.declared.verdict.Verdict.{Verdict}
use Rattle.table.specs.declared.walk.trail.Step.{Step}
use Rattle.table.specs.chains.Table.{Table}
use Rattle.table.specs.walk.Walk.{walk}
use Rattle.questions.specs.Foreign.{Assignment}
use Rattle.questions.specs.Ends.{IsRule, rule_at, verdict_given}
use Rattle.questions.specs.Leaves.{entry_of}
use Rattle.questions.specs.Scopes.{Whole, answered, known_under, left_under, table_of, unasked, whole_of}
use Rattle.questions.specs.Written.{HasNoneWritten, IsSampleOf, IsWritten}
use Rattle.questions.specs.asked.Alike.{HoldsWith}
use Rattle.questions.specs.asked.Always.{IsAlwaysDeadIn}
use Rattle.questions.specs.asked.Claims.{CantBeWalked, IsKept, IsShownAgainst}
use Rattle.questions.specs.asked.Reach.{IsMeant}
use Rattle.questions.specs.declared.asked.claims.Claimed.{Claimed}
use Rattle.questions.specs.declared.asked.claims.Claimed.TheVariants.{Holds, Fails, Unclear}
use Rattle.questions.specs.declared.asked.other.Shown.{Shown}
use Rattle.questions.specs.boxes.Boxes.{IsIn}
use Rattle.questions.specs.declared.asked.reach.Given.{Given}
use Rattle.questions.specs.declared.asked.reach.GivenPackets.{GivenPackets}
use Rattle.questions.specs.declared.foreign.answers.Answer.{Answer}
use Rattle.questions.specs.declared.walking.scope.Scope.{Scope}
use Rattle.questions.specs.declared.foreign.subject.Subject.{Subject}
use Rattle.questions.specs.declared.walking.task.Leaf.{Leaf}
use Rattle.questions.specs.steps.Exact.{AreExactWalksUnder, IsMet}

-- the leaf has none of the verdicts, or no packet line writes a packet of its box
abbrev pub IsPassing : Hook → List Verdict → Leaf → Type 0
IsPassing hook forbidden leaf = (Contains forbidden leaf.verdict → ⊥) ⊎ HasNoneWritten hook leaf.area

-- a packet that a line writes, of a leaf that has one of the verdicts, and the leaf's answers
abbrev pub IsOfForbidden : Hook → List Verdict → List Leaf → Shown → Type 0
IsOfForbidden hook forbidden leaves shown =
    Any (λ (leaf : Leaf). Contains forbidden leaf.verdict × (shown.answers ≡ leaf.answers) × ((p : Packet) × IsSampleOf hook leaf.area shown.words p)) leaves

-- the leaves are exactly the walks of the packets of a box that can be at the hook, whatever holds
abbrev pub AreWalked : Whole → Given → List Leaf → Type 0
AreWalked t given exact =
    (met : Given) × IsMet given met × ((a : Assignment) → AreExactWalksUnder (left_under t a) (known_under t a) met.hook (unasked met.area) exact)

-- the packet of the box gets one of the verdicts
pub record IsOne (t : Table) (given : Given) (forbidden : List Verdict) (p : Packet) : Type 0 where
  pub meant : IsMeant given p
  pub gets : Contains forbidden (walk t p).verdict

-- whatever holds, no packet of the box does
abbrev pub IsFree : Subject → Given → List Verdict → Type 0
IsFree subject given forbidden = (a : Assignment) (p : Packet) → IsOne (answered subject a) given forbidden p → ⊥

-- under some assignment a packet of the box gets one of the verdicts
abbrev pub HasOne : Whole → Given → List Verdict → Type 0
HasOne t given forbidden = (a : Assignment) × (p : Packet) × IsOne (left_under t a) given forbidden p

-- under none does one that a line writes
abbrev pub HasNoneOf : Whole → Given → List Verdict → Type 0
HasNoneOf t given forbidden = (a : Assignment) (p : Packet) → IsWritten p → IsOne (left_under t a) given forbidden p → ⊥

-- the box can't be walked, or a packet of it gets one of the verdicts, and none that a line writes
abbrev pub MayFail : Whole → Given → List Verdict → ℕ → Type 0
MayFail t given forbidden budget = CantBeWalked t given budget ⊎ (HasOne t given forbidden × HasNoneOf t given forbidden)

-- what an answer says of the packets of a box
abbrev pub IsToldIn : Subject → Given → List Verdict → ℕ → Claimed → Type 0
IsToldIn subject given forbidden budget Holds = IsFree subject given forbidden
IsToldIn subject given forbidden budget (Fails words answers) = HoldsWith answers (λ a. (p : Packet) × (packet_of words ≡ Ok p) × IsOne (answered subject a) given forbidden p)
IsToldIn subject given forbidden budget Unclear = MayFail (whole_of subject) given forbidden budget

-- ---- by the rules that give one of the verdicts

-- the target gives one of the verdicts
abbrev pub GivesOne : List Verdict → Option Target → Type 0
GivesOne forbidden to = MatchOption (verdict_given to) ⊥ (Contains forbidden)

-- the scope has the packets of a box that can be at the hook, with nothing answered
abbrev pub IsStart : Given → Scope → Type 0
IsStart given start = (met : Given) × IsMet given met × (start.area ≡ met.area) × (start.answers ≡ [])

-- there is one for each of some boxes
pub record AreStarts (given : GivenPackets) (starts : List Scope) : Type 0 where
  pub long : length starts ≡ length given.boxes.items
  pub each : (k : ℕ) (box : List SpanSet) (d : Scope) → k < length starts → IsStart (record { hook = given.hook; area = slice_index_or given.boxes.items k box }) (slice_index_or starts k d)

-- whatever holds, no packet of the scopes at the hook comes to the rule
abbrev pub NoneComes : Subject → Hook → List Scope → Step → Type 0
NoneComes subject hook starts step = All (IsAlwaysDeadIn subject step hook) starts

-- the rule is on the walk of this packet of the scopes
pub record IsComing (t : Table) (hook : Hook) (starts : List Scope) (step : Step) (p : Packet) : Type 0 where
  pub there : p.hook ≡ hook
  pub inside : Any (λ (start : Scope). IsIn start.area p) starts
  pub on : Contains (walk t p).trail (entry_of t.chains step)

-- where the answers are right, the rule is on the walk of the packet that the words write
abbrev pub OneComes : Subject → Hook → List Scope → Step → List (List ℕ) → List Answer → Type 0
OneComes subject hook starts step words answers = HoldsWith answers (λ a. (p : Packet) × (packet_of words ≡ Ok p) × IsComing (answered subject a) hook starts step p)

-- what an answer says of a rule
abbrev pub SaysByRule : Subject → Hook → List Scope → Step → Claimed → Type 0
SaysByRule subject hook starts step Holds = NoneComes subject hook starts step
SaysByRule subject hook starts step (Fails words answers) = OneComes subject hook starts step words answers
SaysByRule subject hook starts step Unclear = Unit {0}

-- the rule is the table's, and gives one of the verdicts
pub record IsGiver (t : Table) (forbidden : List Verdict) (step : Step) : Type 0 where
  pub rule : IsRule t step
  pub gives : GivesOne forbidden (target_of (rule_at t step))

-- what an answer says of the rules of a chain that give one of the verdicts
abbrev pub SaysInChain : Subject → Hook → List Scope → List Verdict → ℕ → Claimed → Type 0
SaysInChain subject hook starts forbidden place Holds =
    (step : Step) → step.chain ≡ place → IsGiver (table_of subject) forbidden step → NoneComes subject hook starts step
SaysInChain subject hook starts forbidden place (Fails words answers) =
    (step : Step) × IsGiver (table_of subject) forbidden step × OneComes subject hook starts step words answers
SaysInChain subject hook starts forbidden place Unclear = Unit {0}

-- what an answer says of a claim, but for an unclear one
abbrev pub SaysByRules : Subject → GivenPackets → List Verdict → Claimed → Type 0
SaysByRules subject given forbidden Holds = IsKept subject given forbidden
SaysByRules subject given forbidden (Fails words answers) = HoldsWith answers (λ a. IsShownAgainst (answered subject a) given forbidden words)
SaysByRules subject given forbidden Unclear = Unit {0}
