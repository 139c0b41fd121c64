-- The packets with a transport header that words say.
use Rattle.std.specs.Prelude.{◌≡◌, ℕ, ◌≤◌, not, Bool, true, List, if◌then◌else◌}
use Rattle.fields.specs.declared.numbers.field.Field.{Field}
use Rattle.fields.specs.declared.numbers.field.Field.TheVariants as field
use Rattle.fields.specs.declared.packet.hook.Hook.{Hook}
use Rattle.fields.specs.numbers.Field.{top}
use Rattle.fields.specs.numbers.Spans.{SpanSet, has}
use Rattle.fields.specs.Packet.{PacketView as Packet, comes_in, goes_out}
use Rattle.notation.specs.Words.{all_say, says}
use Rattle.notation.specs.declared.packet_word.PacketWord.{PacketWord}
use Rattle.questions.specs.boxes.Boxes.{IsIn}
use Rattle.questions.specs.boxes.Said.{IsAt}
use Rattle.questions.specs.declared.boxes.transport.Transport.{Transport}
use Rattle.questions.specs.steps.Transports.{HasTransport, with_flags, with_ports, with_type}

-- packets at the hook with the transport header carry the key of the field
abbrev pub is_carried : Hook → Transport → Field → Bool
is_carried hook t field.Source = true
is_carried hook t field.Destination = true
is_carried hook t field.InIface = comes_in hook
is_carried hook t field.OutIface = goes_out hook
is_carried hook t field.Protocol = true
is_carried hook t field.Fragment = true
is_carried hook t field.SourcePort = with_ports t
is_carried hook t field.DestinationPort = with_ports t
is_carried hook t field.TcpFlags = with_flags t
is_carried hook t field.IcmpType = with_type t
is_carried hook t field.ConnectionState = true
is_carried hook t field.TimeToLive = true

-- the numbers that a word allows packets which carry its key
pub record IsAllowed (word : PacketWord) (set : SpanSet) : Type 0 where
  pub greatest : set.top ≡ top word.field
  pub members : (x : ℕ) → x ≤ top word.field → has set.intervals x ≡ (if word.denies then not (has word.numbers.intervals x) else has word.numbers.intervals x)

-- one box has of the packets of another, at the hook and with the transport header, just those of which the word holds
pub record IsSaidWith (t : Transport) (hook : Hook) (word : PacketWord) (before after : List SpanSet) : Type 0 where
  pub all : (p : Packet) → IsAt hook p → HasTransport t p → IsIn before p → says word p ≡ true → IsIn after p
  pub own : (p : Packet) → IsAt hook p → IsIn after p → IsIn before p
  pub say : (p : Packet) → IsAt hook p → HasTransport t p → IsIn after p → says word p ≡ true

-- a box has of the packets at the hook just those with the transport header of which all words hold
pub record IsSaidOf (t : Transport) (hook : Hook) (words : List PacketWord) (box : List SpanSet) : Type 0 where
  pub all : (p : Packet) → IsAt hook p → HasTransport t p → all_say words p ≡ true → IsIn box p
  pub with : (p : Packet) → IsAt hook p → IsIn box p → HasTransport t p
  pub say : (p : Packet) → IsAt hook p → IsIn box p → all_say words p ≡ true
