-- Which packets some packet line writes, how the numbers of one are chosen, and the line that writes it.
use Rattle.std.specs.Prelude.{◌≡◌, ℕ, List, Some, Ok, ◌⊎◌, zero, suc, ◌+◌, ◌*◌, ◌^◌, ◌≤◌, Bool, true, false, ◌==◌, not, ◌∷◌, ◌++◌, filter, flat_map, if◌then◌else◌}
use Rattle.fields.specs.declared.packet.hook.Hook.{Hook}
use Rattle.fields.specs.numbers.Spans.{SpanSet}
use Rattle.fields.specs.Packet.{PacketView as Packet, packet_of, point, carries_key, carries, key_of}
use Rattle.fields.specs.text.Words.{words_of}
use Rattle.fields.specs.values.Interface.{IsInterfaceName, interface_value, is_interface_byte}
use Rattle.fields.specs.declared.numbers.field.Field.{Field}
use Rattle.fields.specs.numbers.Field.{top, all_fields, name}
use Rattle.classify.specs.Classifier.{box_allows}
use Rattle.fields.specs.declared.numbers.field.Field.TheVariants.{Source, Destination, InIface, OutIface, Protocol, Fragment, SourcePort, DestinationPort, TcpFlags, IcmpType, ConnectionState, TimeToLive}
use Rattle.fields.specs.Hook.{name as hook_name}
use Rattle.notation.specs.ValueText.{value_text}
use Rattle.fields.specs.declared.numbers.field.Field.TheVariants as field
use Rattle.questions.specs.boxes.Boxes.{IsAtHook, IsIn}
use Rattle.questions.specs.declared.sampling.choice.Kind.{Kind}

-- ---- Which packets some packet line writes, by their numbers.

-- the number of an interface with a name, or of a missing one
abbrev pub IsInterfaceNumber : ℕ → Type 0
IsInterfaceNumber number = (name : List ℕ) × IsInterfaceName name × (number ≡ interface_value name)

-- the packet can be at its hook, and its interfaces have names
pub record CanBeWritten (p : Packet) : Type 0 where
  pub at_hook : IsAtHook p
  pub came : IsInterfaceNumber (point p field.InIface)
  pub goes : IsInterfaceNumber (point p field.OutIface)

-- the packet at the hook with these numbers
abbrev pub packet_with : Hook → List ℕ → Packet
packet_with hook numbers = record { hook = hook; values = numbers }

-- the line writes the packet
abbrev pub Writes : List ℕ → Packet → Type 0
Writes line p = (words : List (List ℕ)) × (words_of line ≡ Some words) × (packet_of words ≡ Ok p)

-- no packet of the box at the hook can be written
abbrev pub HasNone : Hook → List SpanSet → Type 0
HasNone hook box = (p : Packet) → CanBeWritten p → p.hook ≡ hook → IsIn box p → ⊥

-- the packet with these numbers can be written, and is one of the box
pub record IsChosen (hook : Hook) (box : List SpanSet) (numbers : List ℕ) : Type 0 where
  pub written : CanBeWritten (packet_with hook numbers)
  pub inside : IsIn box (packet_with hook numbers)

-- ---- How the numbers of one packet of a box are chosen.

-- the byte may stand in an interface's name
abbrev pub IsNameByte : ℕ → Type 0
IsNameByte byte = is_interface_byte byte ≡ true

-- the number of the last bytes of an interface's number, so many after the first of them: bytes of a name, then at least one zero
abbrev pub IsTail : ℕ → ℕ → Type 0
IsTail zero number = number ≡ 0
IsTail (suc after) number =
    (number ≡ 0) ⊎ ((byte : ℕ) × (rest : ℕ) × IsNameByte byte × IsTail after rest × (number ≡ byte * 256 ^ suc after + rest))

-- the least number, from a given one on, of which the fact holds
pub record IsLeast (holds : ℕ → Type 0) (from number : ℕ) : Type 0 where
  pub is : holds number
  pub above : from ≤ number
  pub least : (other : ℕ) → holds other → from ≤ other → number ≤ other

-- the fact holds of no number from there on
abbrev pub HasNoneFrom : (ℕ → Type 0) → ℕ → Type 0
HasNoneFrom holds from = (number : ℕ) → holds number → from ≤ number → ⊥

-- the number of an interface with a name
abbrev pub IsNamed : ℕ → Type 0
IsNamed number = IsInterfaceNumber number × (1 ≤ number)

-- a number that passes the test, and of which the fact holds
pub record IsFound (holds : ℕ → Type 0) (passes : ℕ → Bool) (number : ℕ) : Type 0 where
  pub is : holds number
  pub there : passes number ≡ true

-- the fact holds of no number that passes the test
abbrev pub FindsNone : (ℕ → Type 0) → (ℕ → Bool) → Type 0
FindsNone holds passes = (number : ℕ) → holds number → passes number ≡ true → ⊥

-- whether a kind's packets carry a field
abbrev pub carries_field : Kind → Field → Bool
carries_field kind f = carries (record { hook = kind.hook; protocol = Some kind.protocol; fragment = kind.fragment }) (key_of f).carrier

-- the box has the kind's protocol and fragment, and 0 on each field that the kind doesn't carry
pub record IsKindOf (box : List SpanSet) (kind : Kind) : Type 0 where
  pub protocol_fits : kind.protocol ≤ top field.Protocol
  pub fragment_fits : kind.fragment ≤ top field.Fragment
  pub protocol : box_allows box field.Protocol kind.protocol ≡ true
  pub fragment : box_allows box field.Fragment kind.fragment ≡ true
  pub others : (f : Field) → carries_field kind f ≡ false → box_allows box f 0 ≡ true

-- the box has packets of this kind, which is of this hook
pub record IsKindAt (hook : Hook) (box : List SpanSet) (kind : Kind) : Type 0 where
  pub there : kind.hook ≡ hook
  pub inside : IsKindOf box kind

-- the kind of packets with this hook, protocol and fragment
abbrev pub kind_of : Hook → ℕ → ℕ → Kind
kind_of hook protocol fragment = record { hook = hook; protocol = protocol; fragment = fragment }

-- the box has no kind of packets with this protocol at the hook
abbrev pub HasNoKindWith : Hook → List SpanSet → ℕ → Type 0
HasNoKindWith hook box protocol = (fragment : ℕ) → IsKindOf box (kind_of hook protocol fragment) → ⊥

-- what the number on a field has to be besides being one of the box: the kind's protocol or fragment, or the number of an interface
abbrev pub IsOwn : Kind → Field → ℕ → Type 0
IsOwn kind field.Protocol number = number ≡ kind.protocol
IsOwn kind field.Fragment number = number ≡ kind.fragment
IsOwn kind field.InIface number = IsInterfaceNumber number
IsOwn kind field.OutIface number = IsInterfaceNumber number
IsOwn kind field.Source number = Unit {0}
IsOwn kind field.Destination number = Unit {0}
IsOwn kind field.SourcePort number = Unit {0}
IsOwn kind field.DestinationPort number = Unit {0}
IsOwn kind field.TcpFlags number = Unit {0}
IsOwn kind field.IcmpType number = Unit {0}
IsOwn kind field.ConnectionState number = Unit {0}
IsOwn kind field.TimeToLive number = Unit {0}

-- a number that a packet of the kind may have on the field, and that the box has
pub record IsNumberOn (box : List SpanSet) (kind : Kind) (f : Field) (number : ℕ) : Type 0 where
  pub within : number ≤ top f
  pub there : box_allows box f number ≡ true
  pub carried : carries_field kind f ≡ false → number ≡ 0
  pub own : IsOwn kind f number

-- ---- The packet line that writes a packet: its hook, and a word for each field whose number has to be written.

-- the word that gives a field a number
abbrev pub word_of : Field → ℕ → List ℕ
word_of field number = name field ++ 61 ∷ value_text field number

-- a missing interface, a packet or first fragment, no flags and the state INVALID (all 0) are written by no word
abbrev pub goes_without_zero : Field → Bool
goes_without_zero Source = false
goes_without_zero Destination = false
goes_without_zero InIface = true
goes_without_zero OutIface = true
goes_without_zero Protocol = false
goes_without_zero Fragment = true
goes_without_zero SourcePort = false
goes_without_zero DestinationPort = false
goes_without_zero TcpFlags = true
goes_without_zero IcmpType = false
goes_without_zero ConnectionState = true
goes_without_zero TimeToLive = false

-- whether a word gives the number on a field; fields other than these are given where they are carried
abbrev pub is_written : Packet → Field → Bool
is_written p field = if goes_without_zero field then not (point p field == 0) else carries_key p field

-- the fields that are written, of some
abbrev pub written_among : Packet → List Field → List Field
written_among p fields = filter (is_written p) fields

-- the word of a field, after a blank (32)
abbrev pub spaced_word : Packet → Field → List ℕ
spaced_word p field = 32 ∷ word_of field (point p field)

-- the words of those fields
abbrev pub spaced_words : Packet → List Field → List ℕ
spaced_words p fields = flat_map (spaced_word p) (written_among p fields)

-- the packet's line
abbrev pub packet_line : Packet → List ℕ
packet_line p = hook_name p.hook ++ spaced_words p all_fields
