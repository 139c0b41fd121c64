-- What the answer to a question about one rule says, for every assignment of conditions that this program doesn't know.
use Rattle.std.specs.Prelude.{◌≡◌, ◌≢◌, ℕ, List, Contains}
use Rattle.fields.specs.declared.packet.hook.Hook.{Hook}
use Rattle.table.specs.declared.verdict.Verdict.TheVariants.{TooLong}
use Rattle.table.specs.declared.walk.trail.Step.{Step}
use Rattle.fields.specs.Packet.{PacketView as Packet}
use Rattle.table.specs.walk.Walk.{Entry, walk}
use Rattle.questions.specs.Foreign.{Agrees, AreConsistent, Assignment}
use Rattle.questions.specs.Leaves.{entry_of}
use Rattle.questions.specs.Scopes.{answered, whole_of}
use Rattle.questions.specs.Written.{IsSampleOf}
use Rattle.questions.specs.asked.Rule.{IsDead, IsDeadAt, IsLive, IsLiveAt}
use Rattle.questions.specs.asked.Unclear.{IsUnclearBy, MayLiveUnder}
use Rattle.questions.specs.boxes.Boxes.{IsAtHook}
use Rattle.questions.specs.declared.asked.rule.Life.{Life}
use Rattle.questions.specs.declared.asked.rule.Life.TheVariants.{Dead, Live, Unclear}
use Rattle.questions.specs.declared.foreign.answers.Answer.{Answer}
use Rattle.questions.specs.declared.foreign.subject.Subject.{Subject}
use Rattle.questions.specs.declared.walking.scope.Scope.{Scope}
use Rattle.questions.specs.steps.Seeking.{IsHere}
use Rattle.questions.specs.steps.Compared.{AreShort}

-- whatever holds, the rule is on the walk of no packet that can be at its hook
abbrev pub IsAlwaysDead : Subject → Entry → Type 0
IsAlwaysDead subject entry = (a : Assignment) → IsDead (answered subject a) entry

-- the words write a packet, and the rule is on its walk where the answers are right, whatever else holds; and some assignment gives them
pub record IsLiveWith (subject : Subject) (entry : Entry) (words : List (List ℕ)) (answers : List Answer) : Type 0 where
  pub consistent : AreConsistent answers
  pub live : (a : Assignment) → Agrees a answers → IsLive (answered subject a) entry words

-- what an answer says of a rule; an unclear one says nothing
abbrev pub Says : Subject → Entry → Life → Type 0
Says subject entry Dead = IsAlwaysDead subject entry
Says subject entry (Live words answers) = IsLiveWith subject entry words answers
Says subject entry Unclear = Unit {0}

-- whatever holds, the rule is on the walk of no packet that can be at this hook
abbrev pub IsAlwaysDeadAt : Subject → Step → Hook → Type 0
IsAlwaysDeadAt subject step hook = (a : Assignment) → IsDeadAt (answered subject a) (entry_of (answered subject a).chains step) hook

-- what an answer says of a rule, for the packets at one hook; an unclear one says nothing
abbrev pub SaysAt : Subject → Step → Hook → Life → Type 0
SaysAt subject step hook Dead = IsAlwaysDeadAt subject step hook
SaysAt subject step hook (Live words answers) =
    AreConsistent answers × ((a : Assignment) → Agrees a answers → IsLiveAt (answered subject a) (entry_of (answered subject a).chains step) hook words)
SaysAt subject step hook Unclear = Unit {0}

-- whatever holds, the rule is on the walk of no packet at this hook that is in a scope
abbrev pub IsAlwaysDeadIn : Subject → Step → Hook → Scope → Type 0
IsAlwaysDeadIn subject step hook start =
    (a : Assignment) (p : Packet) → IsAtHook p → p.hook ≡ hook → IsHere a p start
    → Contains (walk (answered subject a) p).trail (entry_of (answered subject a).chains step) → ⊥

-- what an answer says of a rule, for those packets at one hook that are in a scope; an unclear one says nothing
abbrev pub SaysIn : Subject → Step → Hook → Scope → Life → Type 0
SaysIn subject step hook start Dead = IsAlwaysDeadIn subject step hook start
SaysIn subject step hook start (Live words answers) = SaysAt subject step hook (Live words answers) × ((p : Packet) × IsSampleOf hook start.area words p)
SaysIn subject step hook start Unclear = Unit {0}

-- the search for the rule comes to no answer, whatever holds
abbrev pub MayLive : Subject → Step → ℕ → Hook → Type 0
MayLive subject step budget hook = MayLiveUnder (whole_of subject) step hook budget

-- an answer about a rule is unclear only where `MayLive` holds at each hook at which the rule isn't dead, and at one hook at least
abbrev pub IsUnclear : Subject → Step → ℕ → Life → Type 0
IsUnclear subject step budget life = IsUnclearBy (IsAlwaysDeadAt subject step) (MayLive subject step budget) life

-- no packet at the hook has a walk that is too long, whatever holds
abbrev pub AreAllShort : Subject → Hook → Type 0
AreAllShort subject hook = (a : Assignment) (p : Packet) → p.hook ≡ hook → (walk (answered subject a) p).verdict ≢ TooLong

-- no packet at the hook that the rule matches has one, whatever holds
abbrev pub AreAlwaysShort : Subject → Step → Hook → Type 0
AreAlwaysShort subject step hook = (a : Assignment) → AreShort (answered subject a) step hook
