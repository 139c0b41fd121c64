-- The search for a packet that comes to a rule: which packets may come by a way, and how ways are tried one after another.
use Rattle.std.specs.Prelude.{◌≡◌, ◌⊎◌, ℕ, ◌<◌, true, List, [], ◌∷◌, ◌++◌, map, Option, All, Any, Contains, IsTrue, MatchOption, zero, suc, length}
use Rattle.fields.specs.declared.packet.hook.Hook.{Hook}
use Rattle.fields.specs.numbers.Spans.{SpanSet}
use Rattle.fields.specs.Hook.{name as hook_name}
use Rattle.fields.specs.Packet.{PacketView as Packet}
use Rattle.rules.specs.declared.rule.target.Target.{Target}
use Rattle.rules.specs.rule.Allows.{matches}
use Rattle.rules.specs.rule.Rules.{Rule}
use Rattle.table.specs.chains.Table.{Chain, Table}
use Rattle.table.specs.declared.walk.trail.Step.{Step}
use Rattle.table.specs.walk.Walk.{Rest, walk}
use Rattle.classify.specs.Classifier.{IsPoint}
use Rattle.rules.specs.Boxed.{IsBoxOf}
use Rattle.questions.specs.Ends.{IsRule, rule_at}
use Rattle.questions.specs.Foreign.{Agrees, Assignment, all_hold}
use Rattle.questions.specs.Leaves.{entry_of, name_at}
use Rattle.questions.specs.Scopes.{answered, table_of, Whole}
use Rattle.questions.specs.boxes.Boxes.{IsAtHook, IsBoth, IsIn, Has, IsNarrower}
use Rattle.questions.specs.boxes.Cut.{IsInSome}
use Rattle.questions.specs.declared.foreign.answers.Answer.{Answer}
use Rattle.questions.specs.declared.foreign.need.Need.{Need}
use Rattle.questions.specs.declared.foreign.subject.Subject.{Subject}
use Rattle.questions.specs.declared.seeking.seen.Seen.{Seen}
use Rattle.questions.specs.declared.seeking.way.Way.{Way}
use Rattle.questions.specs.declared.walking.scope.Scope.{Scope}
use Rattle.questions.specs.steps.Takers.{needs_of}
use Rattle.questions.specs.steps.Straying.{Ends, Hits, IsLedAway, IsOpenWay, LeadsAway, TakesOut, NoneTakesOut, place_at}
use Rattle.questions.specs.boxes.Calls.{IsCall}
use Rattle.questions.specs.steps.Answered.{IsMeeting}

-- ---- The search for a packet that comes to a rule: which packets may come by a way, and how these are parted.

-- ---- packets of scopes

-- the packet is one of the scope's box, and its answers are right
abbrev pub IsHere : Assignment → Packet → Scope → Type 0
IsHere a p scope = IsIn scope.area p × Agrees a scope.answers

-- two scopes have the same packets
abbrev pub IsSameScope : Scope → Scope → Type 0
IsSameScope scope other = IsBoth scope.area scope.area other.area × (other.answers ≡ scope.answers)

-- no packet of the scopes is lost; and a packet of one more, which can be at its hook, is in one of them, or a fact holds of it
pub record AddsParts (scope : Scope) (Other : Assignment → Packet → Type 0) (old new : List Scope) : Type 0 where
  pub kept : (a : Assignment) (p : Packet) → Any (IsHere a p) old → Any (IsHere a p) new
  pub parted : (a : Assignment) (p : Packet) → IsAtHook p → IsHere a p scope → Any (IsHere a p) new ⊎ Other a p

-- a scope has one of some boxes, and these answers
pub record IsBoxUnder (boxes : List (List SpanSet)) (answers : List Answer) (scope : Scope) : Type 0 where
  pub area : Contains boxes scope.area
  pub same : scope.answers ≡ answers

-- no packet of the scopes is lost, and each of some boxes is in one of them, where these answers are right; no others are put there
pub record AddsBoxes (boxes : List (List SpanSet)) (answers : List Answer) (old new : List Scope) : Type 0 where
  pub kept : (a : Assignment) (p : Packet) → Any (IsHere a p) old → Any (IsHere a p) new
  pub each : (a : Assignment) (p : Packet) → IsInSome boxes p.values → Agrees a answers → Any (IsHere a p) new
  pub only : (more : List Scope) × (new ≡ old ++ more) × All (IsBoxUnder boxes answers) more

-- a rule that is looked at is the one of a step
pub record IsSeen (subject : Subject) (by : Step) (seen : Seen) : Type 0 where
  pub is : IsRule (table_of subject) by
  pub rule : seen.rule.now ≡ rule_at (table_of subject) by
  pub needs : seen.needs.now ≡ needs_of subject.needs.now by

-- the rule matches the packet, all holds that it needs, and the packet is in the scope that is left, if there is one
abbrev pub IsLeftIn : Rule → List Need → Option Scope → Assignment → Packet → Type 0
IsLeftIn rule needs left a p = (matches p.values rule ≡ true) × IsTrue (all_hold a needs) × MatchOption left ⊥ (IsHere a p)

-- the chains under an assignment
abbrev pub chains_of : Subject → Assignment → List Chain
chains_of subject a = (answered subject a).chains

-- the rule of a step doesn't take the packet out of its chain
abbrev pub KeepsIn : Subject → Step → Assignment → Packet → Type 0
KeepsIn subject by a p = (o : Option Target) → Hits (chains_of subject a) p.values (place_at (chains_of subject a) by) o → TakesOut o → ⊥

-- nor does one ahead of it
abbrev pub NoneAheadTakesOut : Subject → Step → ℕ → Assignment → Packet → Type 0
NoneAheadTakesOut subject by count a p = NoneTakesOut (chains_of subject a) p.values (name_at (chains_of subject a) by.chain) 0 count

-- a packet that comes to the rule gets a verdict there
abbrev pub EndsAt : Subject → Step → Assignment → Packet → Type 0
EndsAt subject by a p = (path : List Rest) × Ends (chains_of subject a) p.values (place_at (chains_of subject a) by) path

-- it doesn't come to the next rule of the chain
abbrev pub LeadsAwayAt : Subject → Step → Assignment → Packet → Type 0
LeadsAwayAt subject by a p = LeadsAway (chains_of subject a) p.values (place_at (chains_of subject a) by)

-- ---- ways

-- the last of some places that lead to a rule, or the rule itself: there the way is entered
abbrev pub top_of : Step → List Step → Step
top_of wanted [] = wanted
top_of wanted (place ∷ places) = top_of place places

-- the packet is one of the way's scope, and comes to the rule by an open way that ends with the places of this one
pub record MayCome (subject : Subject) (a : Assignment) (p : Packet) (way : Way) : Type 0 where
  pub here : IsHere a p way.scope
  pub free : IsLedAway (chains_of subject a) p.values (place_at (chains_of subject a) way.wanted) → ⊥
  pub above : List Rest
  pub leads : IsOpenWay (chains_of subject a) p.values (hook_name p.hook) (name_at (chains_of subject a) way.wanted.chain)
      (map (place_at (chains_of subject a)) way.places.items ++ above)

-- a rule is the way's own, or one of its places
abbrev pub IsPlaceOf : Way → Step → Type 0
IsPlaceOf way place = (place ≡ way.wanted) ⊎ Contains way.places.items place

-- the packet is matched by the way's own rule and by all rules of its places
abbrev pub AllMatch : Table → Packet → Way → Type 0
AllMatch t p way = (place : Step) → IsPlaceOf way place → IsRule t place → matches p.values (rule_at t place) ≡ true

-- a rule stands ahead of one of a way in its chain
pub record IsAheadOn (way : Way) (by place : Step) : Type 0 where
  pub own : IsPlaceOf way place
  pub chain : by.chain ≡ place.chain
  pub ahead : by.number < place.number

-- the ways lead to the rule
abbrev pub AllWant : Step → List Way → Type 0
AllWant step ways = All (λ (way : Way). way.wanted ≡ step) ways

-- the ways still lead where they led, if one more leads there, too
abbrev pub KeepsWanted : Way → List Way → List Way → Type 0
KeepsWanted way old new = (step : Step) → way.wanted ≡ step → AllWant step old → AllWant step new

-- each packet of a scope that comes to the rule may come by one of the ways
abbrev pub AreAllWays : Subject → Scope → Step → Hook → List Way → Type 0
AreAllWays subject start step hook ways =
    (a : Assignment) (p : Packet) → IsAtHook p → p.hook ≡ hook → IsHere a p start
    → Contains (walk (answered subject a) p).trail (entry_of (answered subject a).chains step) → Any (MayCome subject a p) ways

-- no packet that may come by the ways is lost, nor one that may come by one more, at the hook
pub record TakesOver (subject : Subject) (hook : Hook) (way : Way) (old new : List Way) : Type 0 where
  pub kept : (a : Assignment) (p : Packet) → Any (MayCome subject a p) old → Any (MayCome subject a p) new
  pub taken : (a : Assignment) (p : Packet) → IsAtHook p → p.hook ≡ hook → MayCome subject a p way → Any (MayCome subject a p) new
  pub wanted : KeepsWanted way old new

-- the same way, for one of some scopes
pub record IsForOne (way : Way) (scopes : List Scope) (part : Way) : Type 0 where
  pub wanted : part.wanted ≡ way.wanted
  pub places : part.places.items ≡ way.places.items
  pub scope : Contains scopes part.scope

-- no packet that may come by the ways is lost
abbrev pub KeepsWays : List Way → List Way → Type 0
KeepsWays old new = (subject : Subject) (a : Assignment) (p : Packet) → Any (MayCome subject a p) old → Any (MayCome subject a p) new

-- nor one that may come by one more and is in one of the scopes
pub record TakesScopes (way : Way) (scopes : List Scope) (old new : List Way) : Type 0 where
  pub kept : KeepsWays old new
  pub taken : (subject : Subject) (a : Assignment) (p : Packet) → MayCome subject a p way → Any (IsHere a p) scopes → Any (MayCome subject a p) new
  pub wanted : KeepsWanted way old new

-- a packet of the way's scope, which a rule leads there by an open way, may come by one of the others
abbrev pub IsTakenBy : Subject → Way → Step → List Way → Type 0
IsTakenBy subject way by new =
    (a : Assignment) (p : Packet) (above : List Rest) → IsAtHook p → IsRule (table_of subject) by → IsHere a p way.scope
    → (IsLedAway (chains_of subject a) p.values (place_at (chains_of subject a) way.wanted) → ⊥)
    → IsOpenWay (chains_of subject a) p.values (hook_name p.hook) (name_at (chains_of subject a) way.wanted.chain)
    (map (place_at (chains_of subject a)) way.places.items ++ place_at (chains_of subject a) by ∷ above)
    → Any (MayCome subject a p) new

-- no packet that may come by the ways is lost, nor one that a rule leads to one more
pub record TakesBy (subject : Subject) (way : Way) (by : Step) (old new : List Way) : Type 0 where
  pub kept : (a : Assignment) (p : Packet) → Any (MayCome subject a p) old → Any (MayCome subject a p) new
  pub taken : IsTakenBy subject way by new
  pub wanted : KeepsWanted way old new

-- each packet that may come by the way is in one of the scopes
abbrev pub AreScopesOf : Subject → Way → List Scope → Type 0
AreScopesOf subject way scopes =
    (a : Assignment) (p : Packet) → IsAtHook p → MayCome subject a p way → Any (IsHere a p) scopes

-- ---- How a packet that comes to a rule is sought: ways to the rule are tried, one after another.

-- a scope has only numbers of another one's box
abbrev pub LiesIn : Scope → Scope → Type 0
LiesIn whole part = (numbers : List ℕ) → IsPoint numbers → Has part.area numbers → Has whole.area numbers

-- one scope has of the packets of another those that a rule's box has, and its answers are given just where all holds that the rule needs
pub record IsLetOn (rule : Rule) (needs : List Need) (before after : Scope) : Type 0 where
  pub box : List SpanSet
  pub own : IsBoxOf rule box
  pub area : IsBoth before.area box after.area
  pub answers : IsMeeting needs before.answers after.answers

-- the first way: from the rule itself, for the packets of a scope that it lets on
pub record IsFirst (t : Whole) (start : Scope) (step : Step) (way : Way) : Type 0 where
  pub wanted : way.wanted ≡ step
  pub own : IsLetOn (rule_at t.table step) (needs_of t.needs step) start way.scope
  pub places : way.places.items ≡ []

-- a way is longer than another one by a rule that enters the chain in which that begins, for the packets that this rule lets on
pub record IsLonger (t : Whole) (way longer : Way) : Type 0 where
  pub wanted : longer.wanted ≡ way.wanted
  pub by : Step
  pub enters : IsCall t.table (record { to = (top_of way.wanted way.places.items).chain; by = by })
  pub places : longer.places.items ≡ way.places.items ++ by ∷ []
  pub scope : IsLetOn (rule_at t.table by) (needs_of t.needs by) way.scope longer.scope

-- the box of a scope has only numbers of another one's; and on some field a number is gone, or there are more answers
pub record IsLess (whole part : Scope) : Type 0 where
  pub inside : LiesIn whole part
  pub less : IsNarrower whole.area part.area ⊎ (length whole.answers < length part.answers)

-- the same way, for such a scope
pub record IsWayFor (way part : Way) : Type 0 where
  pub wanted : part.wanted ≡ way.wanted
  pub places : part.places.items ≡ way.places.items
  pub less : IsLess way.scope part.scope

-- what takes the place of a way that is tried: longer ways, and the same way for such parts of its scope
abbrev pub TakesPlace : Whole → Way → Way → Type 0
TakesPlace t way next = IsLonger t way next ⊎ IsWayFor way next

-- ways are put on those that were there, and this holds of each
abbrev pub AddsWays : (Way → Type 0) → List Way → List Way → Type 0
AddsWays Holds old new = (more : List Way) × (new ≡ old ++ more) × All Holds more

-- the newest way is tried
abbrev pub IsTry : Whole → List Way → List Way → Type 0
IsTry t old new = (left : List Way) × (way : Way) × (old ≡ left ++ way ∷ []) × AddsWays (TakesPlace t way) left new

-- so many tries
abbrev pub AreTries : ℕ → Whole → List Way → List Way → Type 0
AreTries zero t old new = old ≡ new
AreTries (suc n) t old new = (mid : List Way) × AreTries n t old mid × IsTry t mid new
