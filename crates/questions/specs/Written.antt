-- Packets that a packet line of a session can write.
use Rattle.std.specs.Prelude.{◌≡◌, ℕ, List, Ok}
use Rattle.fields.specs.declared.packet.hook.Hook.{Hook}
use Rattle.fields.specs.numbers.Spans.{SpanSet}
use Rattle.fields.specs.Packet.{PacketView as Packet, packet_of}
use Rattle.questions.specs.boxes.Boxes.{IsIn}

-- some packet line writes the packet
abbrev pub IsWritten : Packet → Type 0
IsWritten p = (words : List (List ℕ)) × (packet_of words ≡ Ok p)

-- the words write this packet, which is at the hook and in the box
pub record IsSampleOf (hook : Hook) (box : List SpanSet) (words : List (List ℕ)) (p : Packet) : Type 0 where
  pub writes : packet_of words ≡ Ok p
  pub there : p.hook ≡ hook
  pub inside : IsIn box p

-- no packet line writes a packet of the box at the hook
abbrev pub HasNoneWritten : Hook → List SpanSet → Type 0
HasNoneWritten hook box = (p : Packet) → IsWritten p → p.hook ≡ hook → IsIn box p → ⊥
