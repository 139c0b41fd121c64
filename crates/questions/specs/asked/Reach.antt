-- What the answer to `reach` says: which verdicts some packets get, by which rule, and with which numbers on a field.
use Rattle.std.specs.Prelude.{◌≡◌, ℕ, ◌≤◌, true, List, option_map, All, AllPairs, Any, IfSome}
use Rattle.fields.specs.declared.numbers.field.Field.{Field}
use Rattle.fields.specs.numbers.Field.{top}
use Rattle.fields.specs.numbers.Spans.{SpanSet, has}
use Rattle.fields.specs.Packet.{PacketView as Packet, point}
use Rattle.table.specs.chains.Table.{Table}
use Rattle.questions.specs.Ends.{EndsBy, IsRule}
use Rattle.questions.specs.Leaves.{entry_of}
use Rattle.questions.specs.boxes.Boxes.{IsAtHook, IsIn}
use Rattle.questions.specs.declared.asked.reach.Given.{Given}
use Rattle.questions.specs.declared.asked.reach.GivenPackets.{GivenPackets}
use Rattle.questions.specs.declared.asked.reached.Reached.{Reached}

-- the packet can be at the hook, and is in the box
pub record IsMeant (given : Given) (p : Packet) : Type 0 where
  pub can : IsAtHook p
  pub there : p.hook ≡ given.hook
  pub inside : IsIn given.area p

-- the packet is one of those that are asked about: it can be at the hook, and is in one of the boxes
pub record IsAmong (given : GivenPackets) (p : Packet) : Type 0 where
  pub can : IsAtHook p
  pub there : p.hook ≡ given.hook
  pub inside : Any (λ (box : List SpanSet). IsIn box p) given.boxes.items

-- the packet is one of those, it has the number on the field, and its walk ends as the entry says
pub record Gets (t : Table) (given : GivenPackets) (field : Field) (entry : Reached) (x : ℕ) (p : Packet) : Type 0 where
  pub meant : IsAmong given p
  pub number : point p field ≡ x
  pub ends : EndsBy t p entry.verdict entry.by

-- an entry has one number or more, up to the field's top; each of them belongs to such a packet with its verdict and decider; and
-- its decider is a rule of the table
pub record IsReached (t : Table) (given : GivenPackets) (field : Field) (entry : Reached) : Type 0 where
  pub greatest : entry.numbers.top ≡ top field
  pub some : (x : ℕ) × (x ≤ top field) × (has entry.numbers.intervals x ≡ true)
  pub each : (x : ℕ) → x ≤ top field → has entry.numbers.intervals x ≡ true → (p : Packet) × Gets t given field entry x p
  pub rule : IfSome entry.by (IsRule t)

-- two entries have the same verdict and the same decider
pub record IsSameEnd (t : Table) (a b : Reached) : Type 0 where
  pub verdict : a.verdict ≡ b.verdict
  pub decider : option_map (entry_of t.chains) a.by ≡ option_map (entry_of t.chains) b.by

-- the entry contains the packet's number on the field, and the packet's walk ends as the entry says
pub record HasItsNumber (t : Table) (field : Field) (p : Packet) (entry : Reached) : Type 0 where
  pub number : has entry.numbers.intervals (point p field) ≡ true
  pub ends : EndsBy t p entry.verdict entry.by

-- of some packets at a hook: for each verdict and decider that some of them get there is one entry; each number in it belongs to
-- such a packet with that verdict and decider, and each packet has its number in the entry of its verdict and decider
pub record IsReach (t : Table) (given : GivenPackets) (field : Field) (reached : List Reached) : Type 0 where
  pub each : All (IsReached t given field) reached
  pub all : (p : Packet) → IsAmong given p → Any (HasItsNumber t field p) reached
  pub one : AllPairs (λ a b. IsSameEnd t a b → ⊥) reached
