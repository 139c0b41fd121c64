-- The text of one number on a field, as a packet line has it (iptables(8), PARAMETERS; iptables-extensions(8)).
use Rattle.std.specs.Prelude.{◌≡◌, ℕ, ◌/◌, ◌%◌, ◌≤◌, ◌==◌, Bool, not, List, [], ◌∷◌, ◌++◌, map, filter, slice_index_or, Some, decimal}
use Rattle.std.specs.Int.{w128, to_be_bytes}
use Rattle.fields.specs.declared.numbers.field.Field.{Field}
use Rattle.fields.specs.declared.numbers.field.Field.TheVariants.{Source, Destination, InIface, OutIface, Protocol, Fragment, SourcePort, DestinationPort, TcpFlags, IcmpType, ConnectionState, TimeToLive}
use Rattle.fields.specs.numbers.Field.{top}
use Rattle.fields.specs.Packet.{number_of_text}
use Rattle.fields.specs.text.Printed.{IsBareWord}
use Rattle.fields.specs.values.ConnectionState.{packet_states}
use Rattle.fields.specs.values.Interface.{interface_of, interface_value}
use Rattle.fields.specs.values.Prefix.{address_text}
use Rattle.fields.specs.values.TcpFlags.{tcp_flags_text}

-- the name of a packet's state with this number
abbrev pub state_name : ℕ → List ℕ
state_name number = slice_index_or (map (λ row. row.0) packet_states) number []

-- a byte other than 0
abbrev pub is_some_byte : ℕ → Bool
is_some_byte byte = not (byte == 0)

-- the name of an interface: the bytes of its number other than 0
unfoldable pub interface_name : ℕ → List ℕ
interface_name number = filter is_some_byte (to_be_bytes w128 number)

-- `type/code`
abbrev pub icmp_text : ℕ → List ℕ
icmp_text number = decimal (number / 256) ++ 47 ∷ decimal (number % 256)

-- the text of a number on a field
abbrev pub value_text : Field → ℕ → List ℕ
value_text Source number = address_text number
value_text Destination number = address_text number
value_text InIface number = interface_name number
value_text OutIface number = interface_name number
value_text Protocol number = decimal number
value_text Fragment number = decimal number
value_text SourcePort number = decimal number
value_text DestinationPort number = decimal number
value_text TcpFlags number = tcp_flags_text number
value_text IcmpType number = icmp_text number
value_text ConnectionState number = state_name number
value_text TimeToLive number = decimal number

-- the number is that of an interface with a name
abbrev pub HasName : ℕ → Type 0
HasName number = (name : List ℕ) × (interface_of name ≡ Some name) × (number ≡ interface_value name)

-- the numbers that have a text: of interfaces those of names, on other fields each up to the top
abbrev pub HasText : Field → ℕ → Type 0
HasText Source number = number ≤ top Source
HasText Destination number = number ≤ top Destination
HasText InIface number = HasName number
HasText OutIface number = HasName number
HasText Protocol number = number ≤ top Protocol
HasText Fragment number = number ≤ top Fragment
HasText SourcePort number = number ≤ top SourcePort
HasText DestinationPort number = number ≤ top DestinationPort
HasText TcpFlags number = number ≤ top TcpFlags
HasText IcmpType number = number ≤ top IcmpType
HasText ConnectionState number = number ≤ top ConnectionState
HasText TimeToLive number = number ≤ top TimeToLive

-- the text is read as the number in a packet line, and may stand there without quotes
pub record IsValueText (field : Field) (text : List ℕ) (number : ℕ) : Type 0 where
  pub reads_back : number_of_text field text ≡ Some number
  pub bare : IsBareWord text
