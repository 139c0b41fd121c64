-- What came of a way to a rule that was tried, and the walks of one packet that may come to it.
use Rattle.std.specs.Prelude.{List, Contains, ◌≡◌, ◌≢◌, ◌<◌, length, Any}
use Rattle.fields.specs.Packet.{PacketView as Packet}
use Rattle.table.specs.declared.walk.trail.Step.{Step}
use Rattle.fields.specs.declared.packet.hook.Hook.{Hook}
use Rattle.fields.specs.numbers.Spans.{SpanSet}
use Rattle.table.specs.chains.Table.{Table}
use Rattle.table.specs.steps.Kept.{hook_index}
use Rattle.table.specs.walk.Walk.{walk}
use Rattle.questions.specs.boxes.Boxes.{IsIn, IsAtHook}
use Rattle.questions.specs.declared.foreign.answers.Answer.{Answer}
use Rattle.questions.specs.declared.foreign.need.Need.{Need}
use Rattle.questions.specs.declared.walking.task.Leaf.{Leaf}
use Rattle.questions.specs.steps.Answered.{IsMeeting, MeetsNever}
use Rattle.questions.specs.Foreign.{Assignment}
use Rattle.questions.specs.Leaves.{entry_of}
use Rattle.questions.specs.Scopes.{answered, whole_of}
use Rattle.questions.specs.asked.Always.{SaysIn}
use Rattle.questions.specs.asked.Unclear.{IsUntold}
use Rattle.questions.specs.declared.walking.course.Course.{Course}
use Rattle.questions.specs.declared.asked.rule.Life.TheVariants.{Live}
use Rattle.questions.specs.declared.foreign.subject.Subject.{Subject}
use Rattle.questions.specs.declared.seeking.seek.Tried.{Tried}
use Rattle.questions.specs.declared.seeking.seek.Tried.TheVariants.{Comes, Parted, Unknown}
use Rattle.questions.specs.declared.seeking.way.Way.{Way}
use Rattle.questions.specs.steps.Seeking.{KeepsWanted, KeepsWays, MayCome, top_of, AddsWays, TakesPlace}

-- ---- The walks of one packet that may come to a rule.

-- the packet is in the leaf and the rule on the leaf's trail; and an assignment gives these answers just if it gives the leaf's and meets what the rule
-- needs
pub record IsCome (needs : List Need) (step : Step) (p : Packet) (answers : List Answer) (leaf : Leaf) : Type 0 where
  pub inside : IsIn leaf.area p
  pub on : Contains leaf.trail.items step
  pub more : IsMeeting needs leaf.answers answers

-- the packet isn't in the leaf, or the rule isn't on the leaf's trail, or no assignment that gives the leaf's answers meets what the rule needs
abbrev pub IsGone : List Need → Step → Packet → Leaf → Type 0
IsGone needs step p leaf = IsIn leaf.area p → Contains leaf.trail.items step → MeetsNever needs leaf.answers

-- ---- What came of a way to a rule that was tried.

-- no packet that may come by the ways is lost, nor one that comes to the rule and may come by one more
pub record TakesOn (subject : Subject) (hook : Hook) (way : Way) (old new : List Way) : Type 0 where
  pub kept : (a : Assignment) (p : Packet) → Any (MayCome subject a p) old → Any (MayCome subject a p) new
  pub taken : (a : Assignment) (p : Packet) → IsAtHook p → p.hook ≡ hook
      → Contains (walk (answered subject a) p).trail (entry_of (answered subject a).chains way.wanted) → MayCome subject a p way → Any (MayCome subject a p) new
  pub wanted : KeepsWanted way old new

-- no way is lost, nor a packet that may come by one more, but those of a box
pub record TakesAllBut (box : List SpanSet) (way : Way) (old new : List Way) : Type 0 where
  pub kept : KeepsWays old new
  pub taken : (subject : Subject) (a : Assignment) (p : Packet) → IsAtHook p → MayCome subject a p way → (IsIn box p → ⊥) → Any (MayCome subject a p) new
  pub wanted : KeepsWanted way old new

-- the way begins in a chain that is there, and not in the hook's
pub record IsElsewhere (t : Table) (hook : Hook) (way : Way) : Type 0 where
  pub there : (top_of way.wanted way.places.items).chain < length t.chains
  pub other : (top_of way.wanted way.places.items).chain ≢ hook_index hook

-- a packet comes to the rule; or others take the way over; or it can't be told, and the others stay
abbrev pub IsTried : Subject → Course → Way → List Way → List Way → Tried → Type 0
IsTried subject course way old new (Comes words answers) = SaysIn subject way.wanted course.hook way.scope (Live words answers)
IsTried subject course way old new Parted = TakesOn subject course.hook way old new × AddsWays (TakesPlace (whole_of subject) way) old new
IsTried subject course way old new Unknown = (new ≡ old) × IsUntold (whole_of subject) course.hook course.budget way
