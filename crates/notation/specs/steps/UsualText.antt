-- The usual text of an interval, computed; where no text is usual, one that doesn't read back.
use Rattle.std.specs.Prelude.{ℕ, ◌-◌, ◌/◌, ◌==◌, List, [], ◌∷◌, ◌++◌, decimal, codes, if◌then◌else◌}
use Rattle.std.specs.Int.{w32, leading_zeros}
use Rattle.fields.specs.declared.numbers.field.Field.{Field}
use Rattle.fields.specs.declared.numbers.field.Field.TheVariants.{Source, Destination, InIface, OutIface, Protocol, Fragment, SourcePort}
use Rattle.fields.specs.declared.numbers.field.Field.TheVariants.{DestinationPort, TcpFlags, IcmpType, ConnectionState, TimeToLive}
use Rattle.fields.specs.declared.numbers.spans.Interval.{Interval}
use Rattle.fields.specs.values.Prefix.{address_text}
use Rattle.notation.specs.IntervalText.{plain_text}
use Rattle.notation.specs.ValueText.{icmp_text, interface_name, value_text}

-- of several addresses the first, and the bits that all numbers up to their distance leave at 0
abbrev pub addresses_text : Interval → List ℕ
addresses_text s = if s.first == s.last then address_text s.first else address_text s.first ++ 47 ∷ decimal (leading_zeros w32 (s.last - s.first))

-- the name of an interface; of several names that begin alike the shortest, and `+`
abbrev pub named_text : Interval → List ℕ
named_text s = if s.first == s.last then interface_name s.first else interface_name s.first ++ 43 ∷ []

-- "none" where a packet has no interface
abbrev pub interfaces_text : Interval → List ℕ
interfaces_text s = if s.last == 0 then codes "none" else named_text s

-- `type/code` of one number, the type alone of all its codes
abbrev pub types_text : Interval → List ℕ
types_text s = if s.first == s.last then icmp_text s.first else decimal (s.first / 256)

-- the text of an interval of a field
unfoldable pub usual_text : Field → Interval → List ℕ
usual_text Source s = addresses_text s
usual_text Destination s = addresses_text s
usual_text InIface s = interfaces_text s
usual_text OutIface s = interfaces_text s
usual_text Protocol s = value_text Protocol s.first
usual_text Fragment s = value_text Fragment s.first
usual_text SourcePort s = value_text SourcePort s.first
usual_text DestinationPort s = value_text DestinationPort s.first
usual_text TcpFlags s = plain_text TcpFlags s
usual_text IcmpType s = types_text s
usual_text ConnectionState s = plain_text ConnectionState s
usual_text TimeToLive s = value_text TimeToLive s.first
