-- The transport header of a packet (tcp, another with ports, icmp, another without, or missing in a further fragment), and which
-- numbers packets with it have.
use Rattle.std.specs.Prelude.{◌≡◌, ℕ, ◌<◌, ◌≤◌, ◌==◌, ◌||◌, not, Bool, true, false, List, [], ◌∷◌, length, slice_index_or}
use Rattle.fields.specs.declared.numbers.field.Field.{Field}
use Rattle.fields.specs.declared.numbers.field.Field.TheVariants as field
use Rattle.fields.specs.numbers.Field.{number_on, top}
use Rattle.fields.specs.numbers.Spans.{SpanSet, has}
use Rattle.fields.specs.Packet.{PacketView as Packet, point}
use Rattle.classify.specs.Classifier.{IsPoint}
use Rattle.questions.specs.boxes.Boxes.{Has}
use Rattle.questions.specs.declared.boxes.transport.Transport.{Transport}
use Rattle.questions.specs.declared.boxes.transport.Transport.TheVariants.{Tcp, Ports, Icmp, Other, Missing}

-- all of these
abbrev pub all_transports : List Transport
all_transports = Tcp ∷ Ports ∷ Icmp ∷ Other ∷ Missing ∷ []

-- packets with it have ports
abbrev pub with_ports : Transport → Bool
with_ports Tcp = true
with_ports Ports = true
with_ports Icmp = false
with_ports Other = false
with_ports Missing = false

-- packets with it have TCP flags
abbrev pub with_flags : Transport → Bool
with_flags Tcp = true
with_flags Ports = false
with_flags Icmp = false
with_flags Other = false
with_flags Missing = false

-- packets with it have an ICMP type and code
abbrev pub with_type : Transport → Bool
with_type Tcp = false
with_type Ports = false
with_type Icmp = true
with_type Other = false
with_type Missing = false

-- udp, dccp, sctp and udplite
abbrev pub is_ported : ℕ → Bool
is_ported x = x == 17 || x == 33 || x == 132 || x == 136

-- packets with it may have this protocol
abbrev pub of_protocol : Transport → ℕ → Bool
of_protocol Tcp x = x == 6
of_protocol Ports x = is_ported x
of_protocol Icmp x = x == 1
of_protocol Other x = not (is_ported x || x == 6 || x == 1)
of_protocol Missing x = true

-- the number on the field `frag`: 1 for further fragments, in which the header is missing
abbrev pub fragment_of : Transport → ℕ
fragment_of Tcp = 0
fragment_of Ports = 0
fragment_of Icmp = 0
fragment_of Other = 0
fragment_of Missing = 1

-- a packet with it may have the number on the field
abbrev pub fits : Transport → Field → ℕ → Bool
fits t field.Source x = true
fits t field.Destination x = true
fits t field.InIface x = true
fits t field.OutIface x = true
fits t field.Protocol x = of_protocol t x
fits t field.Fragment x = x == fragment_of t
fits t field.SourcePort x = with_ports t || x == 0
fits t field.DestinationPort x = with_ports t || x == 0
fits t field.TcpFlags x = with_flags t || x == 0
fits t field.IcmpType x = with_type t || x == 0
fits t field.ConnectionState x = true
fits t field.TimeToLive x = true

-- numbers that a packet with it may have
abbrev pub Fits : Transport → List ℕ → Type 0
Fits t numbers = (f : Field) → fits t f (number_on numbers f) ≡ true

-- the packet has this transport header
pub record HasTransport (t : Transport) (p : Packet) : Type 0 where
  pub protocol : of_protocol t (point p field.Protocol) ≡ true
  pub fragment : point p field.Fragment ≡ fragment_of t

-- the numbers on a field of packets with this transport header
pub record AreNumbersWith (t : Transport) (f : Field) (set : SpanSet) : Type 0 where
  pub greatest : set.top ≡ top f
  pub members : (x : ℕ) → x ≤ top f → has set.intervals x ≡ fits t f x

-- one box has of the packets of another exactly those with this transport header
pub record IsWithTransport (t : Transport) (before after : List SpanSet) : Type 0 where
  pub all : (numbers : List ℕ) → IsPoint numbers → Has before numbers → Fits t numbers → Has after numbers
  pub own : (numbers : List ℕ) → IsPoint numbers → Has after numbers → Has before numbers
  pub with : (numbers : List ℕ) → IsPoint numbers → Has after numbers → Fits t numbers

-- for each transport header the packets of a box that have it
pub record AreByTransport (box : List SpanSet) (boxes : List (List SpanSet)) : Type 0 where
  pub long : length boxes ≡ length all_transports
  pub each : (k : ℕ) (transport : Transport) (b : List SpanSet) → k < length all_transports
      → IsWithTransport (slice_index_or all_transports k transport) box (slice_index_or boxes k b)

-- one box has of the packets of another exactly those that are no further fragments and whose protocol passes a test
pub record IsFirstWith (test : ℕ → Bool) (before after : List SpanSet) : Type 0 where
  pub all : (numbers : List ℕ) → IsPoint numbers → Has before numbers → test (number_on numbers field.Protocol) ≡ true → number_on numbers field.Fragment ≡ 0
      → Has after numbers
  pub own : (numbers : List ℕ) → IsPoint numbers → Has after numbers → Has before numbers
  pub protocol : (numbers : List ℕ) → IsPoint numbers → Has after numbers → test (number_on numbers field.Protocol) ≡ true
  pub first : (numbers : List ℕ) → IsPoint numbers → Has after numbers → number_on numbers field.Fragment ≡ 0

-- one box has the packets of another if they are wanted, else none
pub record IsKept (wanted : Bool) (before after : List SpanSet) : Type 0 where
  pub all : wanted ≡ true → (numbers : List ℕ) → IsPoint numbers → Has before numbers → Has after numbers
  pub own : (numbers : List ℕ) → IsPoint numbers → Has after numbers → Has before numbers
  pub wished : (numbers : List ℕ) → IsPoint numbers → Has after numbers → wanted ≡ true
