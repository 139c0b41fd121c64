-- The fields of a packet on which rules put conditions: each field's place in the order, its greatest value and its name.
use Rattle.std.specs.Prelude.{ℕ, List, [], ◌∷◌, slice_index, codes}
use Rattle.fields.specs.declared.numbers.field.Field.{Field}
use Rattle.fields.specs.declared.numbers.field.Field.TheVariants.{Source, Destination, InIface, OutIface, Protocol, Fragment, SourcePort}
use Rattle.fields.specs.declared.numbers.field.Field.TheVariants.{DestinationPort, TcpFlags, IcmpType, ConnectionState, TimeToLive}

-- the greatest address
abbrev pub address_top : ℕ
address_top = 4294967295

-- the greatest number of an interface: all bits of its 16 bytes
abbrev pub interface_top : ℕ
interface_top = 340282366920938463463374607431768211455

-- the greatest number of a protocol
abbrev pub protocol_top : ℕ
protocol_top = 255

-- the greatest number of the field `frag`: 1 for a further fragment, else 0
abbrev pub fragment_top : ℕ
fragment_top = 1

-- the greatest port
abbrev pub port_top : ℕ
port_top = 65535

-- the sum of all six TCP flags
abbrev pub flags_top : ℕ
flags_top = 63

-- the greatest number of an ICMP type and code: the type times 256, plus the code
abbrev pub icmp_top : ℕ
icmp_top = 65535

-- the greatest number of a packet's connection state, translations included
abbrev pub state_top : ℕ
state_top = 13

-- the greatest time to live
abbrev pub ttl_top : ℕ
ttl_top = 255

-- a field's place in the order, its greatest value, and its name
pub record FieldRow : Type 0 where
  pub index : ℕ
  pub top : ℕ
  pub name : List ℕ

-- a row of these values
abbrev pub row : ℕ → ℕ → List ℕ → FieldRow
row index top name = record { index = index; top = top; name = name }

-- all fields, in their order
abbrev pub all_fields : List Field
all_fields =
    Source ∷ Destination ∷ InIface ∷ OutIface ∷ Protocol ∷ Fragment ∷ SourcePort ∷ DestinationPort ∷ TcpFlags ∷ IcmpType
    ∷ ConnectionState ∷ TimeToLive ∷ []

-- the table of fields: the place, the greatest value and the name of each
abbrev pub row_of : Field → FieldRow
row_of Source = row 0 address_top (codes "src")
row_of Destination = row 1 address_top (codes "dst")
row_of InIface = row 2 interface_top (codes "in")
row_of OutIface = row 3 interface_top (codes "out")
row_of Protocol = row 4 protocol_top (codes "proto")
row_of Fragment = row 5 fragment_top (codes "frag")
row_of SourcePort = row 6 port_top (codes "sport")
row_of DestinationPort = row 7 port_top (codes "dport")
row_of TcpFlags = row 8 flags_top (codes "flags")
row_of IcmpType = row 9 icmp_top (codes "icmp")
row_of ConnectionState = row 10 state_top (codes "ct")
row_of TimeToLive = row 11 ttl_top (codes "ttl")

-- the field's place in the order
abbrev pub index : Field → ℕ
index field = (row_of field).index

-- the field's greatest value
abbrev pub top : Field → ℕ
top field = (row_of field).top

-- the field's name
abbrev pub name : Field → List ℕ
name field = (row_of field).name

-- the number on a field, of numbers given one a field in the order of the fields
abbrev pub number_on : List ℕ → Field → ℕ
number_on numbers field = slice_index numbers (index field)
