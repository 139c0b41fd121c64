-- Packets, and the words of a packet line: a hook, and then words `key=value`, with the keys, one for each field: what each takes, which
-- packets carry it, and which need it.
use Rattle.std.specs.Prelude.{ℕ, Bool, true, false, ◌==◌, ◌&&◌, List, Option, Some, None, ◌≡◌, ◌≤◌, not, ◌||◌, [], ◌∷◌, ◌++◌, length, map, find, is_some, is_none, unwrap_or, Result, Ok, Err, if◌then◌else◌}
use Rattle.std.specs.List.{list_any}
use Rattle.std.specs.Option.{option_or}
use Rattle.std.specs.Str.{bytes_eq}
use Rattle.fields.specs.Sequence.{◌>>=◌}
use Rattle.fields.specs.text.Number.{number_to}
use Rattle.fields.specs.values.Prefix.{address_of}
use Rattle.fields.specs.values.Interface.{interface_of, interface_value}
use Rattle.fields.specs.values.Protocol.{one_protocol_of, carries_ports}
use Rattle.fields.specs.values.TcpFlags.{tcp_flags_of}
use Rattle.fields.specs.values.Icmp.{packet_icmp_of}
use Rattle.fields.specs.values.ConnectionState.{packet_state_of}
use Rattle.fields.specs.values.Ttl.{ttl_of}
use Rattle.fields.specs.declared.packet.hook.Hook.{Hook}
use Rattle.fields.specs.declared.packet.hook.Hook.TheVariants.{Input, Forward, Output}
use Rattle.fields.specs.declared.numbers.field.Field.{Field}
use Rattle.fields.specs.declared.packet.keys.KeyRow.{KeyRow}
use Rattle.fields.specs.declared.packet.keys.ValueKind.{ValueKind}
use Rattle.fields.specs.declared.packet.keys.Shape.{Shape}
use Rattle.fields.specs.declared.packet.keys.Carrier.{Carrier}
use Rattle.fields.specs.text.Cut.{cut_at}
use Rattle.fields.specs.numbers.Field.{all_fields, number_on, top, name}
use Rattle.fields.specs.Hook.{hook_of}
use Rattle.fields.specs.declared.packet.PacketFault.{PacketFault}
use Rattle.fields.specs.declared.packet.PacketFault.TheVariants.{UnknownKey, KeyMissing, BadValue, NotCarried}
use Rattle.fields.specs.declared.numbers.field.Field.TheVariants as field
use Rattle.fields.specs.declared.packet.keys.ValueKind.TheVariants as value
use Rattle.fields.specs.declared.packet.keys.Carrier.TheVariants as carrier

-- ---- The keys of a packet line (one for each field, named like it): what each takes, which packets carry it, and which need it.

-- the number that a text stands for as a value of this kind
abbrev pub value_of : ValueKind → List ℕ → Option ℕ
value_of value.Address text = address_of text
value_of value.Interface text = interface_of text >>= λ name. Some (interface_value name)
value_of value.Protocol text = one_protocol_of text
value_of value.Bit text = number_to 1 text
value_of value.Port text = number_to 65535 text
value_of value.Flags text = tcp_flags_of text
value_of value.Icmp text = packet_icmp_of text
value_of value.State text = packet_state_of text
value_of value.Ttl text = ttl_of text

-- whether a packet at this hook came in by an interface: at OUTPUT it didn't (iptables(8), PARAMETERS, -i)
abbrev pub comes_in : Hook → Bool
comes_in Input = true
comes_in Forward = true
comes_in Output = false

-- whether a packet at this hook goes out by an interface: at INPUT it doesn't (iptables(8), PARAMETERS, -o)
abbrev pub goes_out : Hook → Bool
goes_out Input = false
goes_out Forward = true
goes_out Output = true

-- the packet has such a protocol and isn't a further fragment; false where no protocol is given
abbrev pub is_first_of : (ℕ → Bool) → ℕ → Option ℕ → Bool
is_first_of has fragment None = false
is_first_of has fragment (Some protocol) = has protocol && (fragment == 0)

-- whether a packet of this shape carries what a key stands for
abbrev pub carries : Shape → Carrier → Bool
carries shape carrier.Every = true
carries shape carrier.Incoming = comes_in shape.hook
carries shape carrier.Outgoing = goes_out shape.hook
carries shape carrier.WithPorts = is_first_of carries_ports shape.fragment shape.protocol
carries shape carrier.Tcp = is_first_of (λ n. n == 6) shape.fragment shape.protocol
carries shape carrier.Icmp = is_first_of (λ n. n == 1) shape.fragment shape.protocol

-- a row of these values
abbrev pub key : ValueKind → Carrier → Bool → ℕ → KeyRow
key value carrier required absent = record { value = value; carrier = carrier; is_required = required; absent = absent }

-- the table of keys: what a key takes, which packets carry it, whether a packet that carries it needs it, and the packet's number
-- on the field where no word gives one
abbrev pub key_of : Field → KeyRow
key_of field.Source = key value.Address carrier.Every true 0
key_of field.Destination = key value.Address carrier.Every true 0
key_of field.InIface = key value.Interface carrier.Incoming false 0
key_of field.OutIface = key value.Interface carrier.Outgoing false 0
key_of field.Protocol = key value.Protocol carrier.Every true 0
key_of field.Fragment = key value.Bit carrier.Every false 0
key_of field.SourcePort = key value.Port carrier.WithPorts true 0
key_of field.DestinationPort = key value.Port carrier.WithPorts true 0
key_of field.TcpFlags = key value.Flags carrier.Tcp false 0
key_of field.IcmpType = key value.Icmp carrier.Icmp true 0
key_of field.ConnectionState = key value.State carrier.Every false 0
key_of field.TimeToLive = key value.Ttl carrier.Every false 64

-- ---- Packets, and the words of a packet line: a hook, and then words `key=value`.

-- a packet: its hook, and its number on each field, in the order of the fields
pub record PacketView : Type 0 where
  pub hook : Hook
  pub values : List ℕ

-- the packet's number on a field
abbrev pub point : PacketView → Field → ℕ
point p field = number_on p.values field

-- a packet has one number a field, each at most the field's top
pub record IsPacket (p : PacketView) : Type 0 where
  pub whole : length p.values ≡ length all_fields
  pub within : (field : Field) → point p field ≤ top field

-- whether this is the field's key
abbrev pub has_key : List ℕ → Field → Bool
has_key key field = bytes_eq (name field) key

-- the field of a key, if it is known
abbrev pub field_of : List ℕ → Option Field
field_of key = find (has_key key) all_fields

-- the field and the value's text in a word `key=value`, cut at the first `=`; nothing where there is no `=` or the key is unknown
abbrev pub part_of : List ℕ → Option (Field × List ℕ)
part_of word = cut_at 61 word >>= λ p. field_of p.0 >>= λ field. Some (field, p.1)

-- the text that a word gives a field
abbrev pub text_in : Field → List ℕ → Option (List ℕ)
text_in field word = cut_at 61 word >>= λ p. if bytes_eq (name field) p.0 then Some p.1 else None

-- the text that some words give a field: that of the first word that gives it one
abbrev pub text_of : Field → List (List ℕ) → Option (List ℕ)
text_of field [] = None
text_of field (word ∷ words) = option_or (text_in field word) (text_of field words)

-- the number that a text stands for on a field
abbrev pub number_of_text : Field → List ℕ → Option ℕ
number_of_text field text = value_of (key_of field).value text

-- the fault of a word with this part, after other words: there is no known key, an earlier word gave the same key, or the value
-- isn't one of the field
abbrev pub fault_of_part : List (List ℕ) → Option (Field × List ℕ) → Option PacketFault
fault_of_part before None = Some UnknownKey
fault_of_part before (Some part) = if is_some (text_of part.0 before) || is_none (number_of_text part.0 part.1) then Some BadValue else None

-- the fault of a word after other words
abbrev pub word_fault : List (List ℕ) → List ℕ → Option PacketFault
word_fault before word = fault_of_part before (part_of word)

-- the fault of the leftmost word that has one
abbrev pub leftmost_fault : List (List ℕ) → List (List ℕ) → Option PacketFault
leftmost_fault before [] = None
leftmost_fault before (word ∷ words) = option_or (word_fault before word) (leftmost_fault (before ++ word ∷ []) words)

-- the number that the words give a field; where none gives one, 64 for the time to live, and 0 for every other field
abbrev pub value_on : List (List ℕ) → Field → ℕ
value_on words field = unwrap_or (text_of field words >>= λ text. number_of_text field text) (key_of field).absent

-- what decides which keys a packet carries: its hook, its protocol if one is given, and whether it is a further fragment
abbrev pub shape_of : Hook → List (List ℕ) → Shape
shape_of hook words = record {
  hook = hook;
  protocol = text_of field.Protocol words >>= λ text. number_of_text field.Protocol text;
  fragment = value_on words field.Fragment;
}

-- the same, of a packet
abbrev pub packet_shape : PacketView → Shape
packet_shape p = record { hook = p.hook; protocol = Some (point p field.Protocol); fragment = point p field.Fragment }

-- whether a packet carries the key of a field
abbrev pub carries_key : PacketView → Field → Bool
carries_key p field = carries (packet_shape p) (key_of field).carrier

-- the words give the key of a field that such a packet doesn't carry
abbrev pub strays : Shape → List (List ℕ) → Field → Bool
strays shape words field = is_some (text_of field words) && not (carries shape (key_of field).carrier)

-- the words give such a key
abbrev pub strays_key : Shape → List (List ℕ) → Bool
strays_key shape words = list_any (strays shape words) all_fields

-- the words don't give the key of a field that such a packet needs
abbrev pub lacks : Shape → List (List ℕ) → Field → Bool
lacks shape words field = (key_of field).is_required && carries shape (key_of field).carrier && is_none (text_of field words)

-- the words lack such a key
abbrev pub lacks_key : Shape → List (List ℕ) → Bool
lacks_key shape words = list_any (lacks shape words) all_fields

-- the packet that the words after a hook write, or its first fault: that of the leftmost faulty word, then a key that it doesn't
-- carry, then a key that it lacks
abbrev pub checked : Hook → List (List ℕ) → Option PacketFault → Result PacketView PacketFault
checked hook words (Some fault) = Err fault
checked hook words None =
    if strays_key (shape_of hook words) words then Err NotCarried
    else if lacks_key (shape_of hook words) words then Err KeyMissing
    else Ok (record { hook = hook; values = map (value_on words) all_fields })

-- the packet at this hook, or the fault that there is no such hook
abbrev pub packet_at : Option Hook → List (List ℕ) → Result PacketView PacketFault
packet_at None words = Err UnknownKey
packet_at (Some hook) words = checked hook words (leftmost_fault [] words)

-- the packet that the words write, the first of which is the hook. A further word is at fault if it has no `=` or an unknown key
-- (F1), if an earlier word gave that key, or if its value isn't one of the field (F3); the leftmost word at fault decides, then a
-- key that such a packet doesn't carry (F4), then one that it lacks (F2)
abbrev pub packet_of : List (List ℕ) → Result PacketView PacketFault
packet_of [] = Err UnknownKey
packet_of (word ∷ words) = packet_at (hook_of word) words
