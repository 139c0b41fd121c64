-- What the answer to a claim about the verdicts of some packets says.
use Rattle.std.specs.Prelude.{◌≡◌, ◌⊎◌, ℕ, List, Ok, Any, Contains}
use Rattle.fields.specs.numbers.Spans.{SpanSet}
use Rattle.fields.specs.Packet.{PacketView as Packet, packet_of}
use Rattle.table.specs.chains.Table.{Table}
use Rattle.table.specs.declared.verdict.Verdict.{Verdict}
use Rattle.table.specs.walk.Walk.{walk}
use Rattle.questions.specs.Foreign.{Assignment}
use Rattle.questions.specs.Scopes.{Whole, answered, left_under, unasked, whole_of}
use Rattle.questions.specs.Written.{IsWritten}
use Rattle.questions.specs.asked.Alike.{HoldsWith}
use Rattle.questions.specs.asked.Reach.{IsAmong}
use Rattle.questions.specs.declared.asked.claims.Claimed.{Claimed}
use Rattle.questions.specs.declared.asked.claims.Claimed.TheVariants.{Holds, Fails, Unclear}
use Rattle.questions.specs.declared.asked.reach.Given.{Given}
use Rattle.questions.specs.declared.asked.reach.GivenPackets.{GivenPackets}
use Rattle.questions.specs.declared.foreign.subject.Subject.{Subject}
use Rattle.questions.specs.steps.Exact.{IsMet}
use Rattle.questions.specs.steps.Taken.{IsUnfinishedUnder}

-- the packet is one of those that are claimed about, and gets one of the forbidden verdicts
pub record IsAgainst (t : Table) (given : GivenPackets) (forbidden : List Verdict) (p : Packet) : Type 0 where
  pub among : IsAmong given p
  pub gets : Contains forbidden (walk t p).verdict

-- whatever holds, no packet is against the claim
abbrev pub IsKept : Subject → GivenPackets → List Verdict → Type 0
IsKept subject given forbidden = (a : Assignment) (p : Packet) → IsAgainst (answered subject a) given forbidden p → ⊥

-- a packet that the words write is
abbrev pub IsShownAgainst : Table → GivenPackets → List Verdict → List (List ℕ) → Type 0
IsShownAgainst t given forbidden words = (p : Packet) × (packet_of words ≡ Ok p) × IsAgainst t given forbidden p

-- the packets of a box that can be at the hook can't all be walked within the budget, whatever holds
abbrev pub CantBeWalked : Whole → Given → ℕ → Type 0
CantBeWalked t given budget = (met : Given) × IsMet given met × IsUnfinishedUnder t met.hook (unasked met.area) budget

-- that is so of one of the boxes
abbrev pub OneCantBeWalked : Whole → GivenPackets → ℕ → Type 0
OneCantBeWalked t given budget = Any (λ (box : List SpanSet). CantBeWalked t (record { hook = given.hook; area = box }) budget) given.boxes.items

-- under some assignment a packet is against the claim, and under none is one that a packet line writes
pub record IsUnwritten (t : Whole) (given : GivenPackets) (forbidden : List Verdict) : Type 0 where
  pub some : (a : Assignment) × (p : Packet) × IsAgainst (left_under t a) given forbidden p
  pub none : (a : Assignment) (p : Packet) → IsWritten p → IsAgainst (left_under t a) given forbidden p → ⊥

-- what an answer says of a claim: it holds; or it fails by the packet that the words write where the answers are right, whatever else holds, and some
-- assignment gives them; or neither is known, and only where a box can't be walked, or no line writes a packet that is against it
abbrev pub SaysOfClaim : Subject → GivenPackets → List Verdict → ℕ → Claimed → Type 0
SaysOfClaim subject given forbidden budget Holds = IsKept subject given forbidden
SaysOfClaim subject given forbidden budget (Fails words answers) = HoldsWith answers (λ a. IsShownAgainst (answered subject a) given forbidden words)
SaysOfClaim subject given forbidden budget Unclear = OneCantBeWalked (whole_of subject) given budget ⊎ IsUnwritten (whole_of subject) given forbidden
