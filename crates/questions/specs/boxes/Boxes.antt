-- Boxes of packets: a set of numbers for each field; and the boxes of all rules of a table.
use Rattle.std.specs.Prelude.{◌≡◌, ℕ, ◌≤◌, ◌==◌, ◌||◌, not, Bool, true, false, IsTrue, List, ◌+◌, ◌<◌, [], ◌∷◌, length, slice_index_or}
use Rattle.fields.specs.declared.numbers.field.Field.{Field}
use Rattle.fields.specs.declared.packet.hook.Hook.{Hook}
use Rattle.fields.specs.numbers.Field.{number_on, top}
use Rattle.fields.specs.numbers.Spans.{SpanSet, has}
use Rattle.fields.specs.Packet.{comes_in, goes_out, PacketView as Packet, IsPacket, carries_key, point}
use Rattle.classify.specs.Classifier.{IsPoint, box_allows, box_matches}
use Rattle.rules.specs.Boxed.{IsBoxOf}
use Rattle.rules.specs.rule.Rules.{Rule}
use Rattle.table.specs.chains.Table.{Chain}
use Rattle.fields.specs.declared.numbers.field.Field.TheVariants as field

-- ---- Boxes of packets: a set of numbers for each field.

-- a packet that can be at its hook: each number is at most its field's top, and the number of a field that the packet doesn't
-- carry, as packet lines have it, is 0 (iptables(8), PARAMETERS, -p, -f, -i and -o)
pub record IsAtHook (p : Packet) : Type 0 where
  pub packet : IsPacket p
  pub carried : (f : Field) → carries_key p f ≡ false → point p f ≡ 0

-- a packet at INPUT has no interface to go out by, and one at OUTPUT has none that it came in by (iptables(8), PARAMETERS, -i and
-- -o)
pub record HasOwnInterfaces (p : Packet) : Type 0 where
  pub came : comes_in p.hook ≡ false → point p field.InIface ≡ 0
  pub goes : goes_out p.hook ≡ false → point p field.OutIface ≡ 0

-- a box has some numbers, given one a field in the order of the fields: each is in the set of its field
pub record Has (box : List SpanSet) (numbers : List ℕ) : Type 0 where
  pub each : IsTrue (box_matches numbers box)

-- the packet is in the box: each of its numbers is in the set of its field
abbrev pub IsIn : List SpanSet → Packet → Type 0
IsIn box p = Has box p.values

-- the packet is in the box, and no other numbers are
pub record IsOnly (box : List SpanSet) (p : Packet) : Type 0 where
  pub inside : IsIn box p
  pub only : (numbers : List ℕ) → IsPoint numbers → Has box numbers → (f : Field) → number_on numbers f ≡ point p f

-- a box has exactly the numbers that two others have in common
pub record IsBoth (own other both : List SpanSet) : Type 0 where
  pub all : (numbers : List ℕ) → IsPoint numbers → Has own numbers → Has other numbers → Has both numbers
  pub first : (numbers : List ℕ) → IsPoint numbers → Has both numbers → Has own numbers
  pub second : (numbers : List ℕ) → IsPoint numbers → Has both numbers → Has other numbers

-- each field's set has a number
abbrev pub HasNumbers : List SpanSet → Type 0
HasNumbers box = (f : Field) → (x : ℕ) × (x ≤ top f) × (box_allows box f x ≡ true)

-- on some field another box is narrower than a box: it lacks a number that this one has
abbrev pub IsNarrower : List SpanSet → List SpanSet → Type 0
IsNarrower box other = (f : Field) × (x : ℕ) × (x ≤ top f) × (box_allows box f x ≡ true) × (box_allows other f x ≡ false)

-- one box has of the numbers of another exactly those whose number on a field is in a set
pub record IsNarrowed (field : Field) (wanted : SpanSet) (before after : List SpanSet) : Type 0 where
  pub all : (numbers : List ℕ) → IsPoint numbers → Has before numbers → has wanted.intervals (number_on numbers field) ≡ true → Has after numbers
  pub own : (numbers : List ℕ) → IsPoint numbers → Has after numbers → Has before numbers
  pub members : (numbers : List ℕ) → IsPoint numbers → Has after numbers → has wanted.intervals (number_on numbers field) ≡ true

-- one box has of the packets of another, at a hook, exactly those that carry the field's key
pub record IsCarrying (hook : Hook) (f : Field) (before after : List SpanSet) : Type 0 where
  pub all : (p : Packet) → IsPacket p → p.hook ≡ hook → IsIn before p → carries_key p f ≡ true → IsIn after p
  pub own : (p : Packet) → IsPacket p → IsIn after p → IsIn before p
  pub carried : (p : Packet) → IsPacket p → p.hook ≡ hook → IsIn after p → carries_key p f ≡ true

-- packets at the hook have no such interface
abbrev pub is_without : Hook → Field → Bool
is_without hook field.InIface = not (comes_in hook)
is_without hook field.OutIface = not (goes_out hook)
is_without hook field.Source = false
is_without hook field.Destination = false
is_without hook field.Protocol = false
is_without hook field.Fragment = false
is_without hook field.SourcePort = false
is_without hook field.DestinationPort = false
is_without hook field.TcpFlags = false
is_without hook field.IcmpType = false
is_without hook field.ConnectionState = false
is_without hook field.TimeToLive = false

-- a packet at the hook may have the number on the field
abbrev pub may_have : Hook → Field → ℕ → Bool
may_have hook f x = not (is_without hook f) || x == 0

-- ---- The boxes of all rules of a table.

-- how many rules the chains have
abbrev pub rules_in : List Chain → ℕ
rules_in [] = 0
rules_in (chain ∷ chains) = length chain.rules + rules_in chains

-- each rule's box, in the order of the rules
pub record AreBoxesOfRules (rules : List Rule) (boxes : List (List SpanSet)) : Type 0 where
  pub long : length boxes ≡ length rules
  pub each : (k : ℕ) (r : Rule) (b : List SpanSet) → k < length rules → IsBoxOf (slice_index_or rules k r) (slice_index_or boxes k b)

-- for each chain the boxes of its rules, in the order of a listing
pub record AreBoxesOf (chains : List Chain) (boxes : List (List (List SpanSet))) : Type 0 where
  pub long : length boxes ≡ length chains
  pub each : (k : ℕ) (c : Chain) (bs : List (List SpanSet)) → k < length chains
      → (let chain : Chain = slice_index_or chains k c in AreBoxesOfRules chain.rules (slice_index_or boxes k bs))
