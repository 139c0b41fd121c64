-- The texts of an interval: the plain one, which always reads back as its numbers, and the usual one, as a user would write it
-- (iptables(8), PARAMETERS; iptables-extensions(8)).
use Rattle.std.specs.Prelude.{◌≡◌, ℕ, ◌+◌, ◌/◌, ◌%◌, ◌≤◌, ◌==◌, nat_lt, ◌&&◌, ◌||◌, Bool, true, false, List, [], ◌∷◌, ◌++◌, flat_map, map, if◌then◌else◌, ◌<◌, decimal, codes}
use Rattle.std.specs.List.{list_any}
use Rattle.std.specs.Int.{w128, to_be_bytes}
use Rattle.fields.specs.declared.numbers.field.Field.{Field}
use Rattle.fields.specs.declared.numbers.field.Field.TheVariants.{Source, Destination, InIface, OutIface, Protocol, Fragment, SourcePort, DestinationPort, TcpFlags, IcmpType, ConnectionState, TimeToLive}
use Rattle.fields.specs.declared.numbers.spans.Interval.{Interval}
use Rattle.fields.specs.numbers.Field.{top}
use Rattle.fields.specs.values.Prefix.{address_text, block_size}
use Rattle.notation.specs.Range.{state_ranges}
use Rattle.notation.specs.ValueText.{value_text, icmp_text, interface_name}

-- ---- The plain text of an interval, which always reads back as its numbers.

-- the hexadecimal digit of a number below 16: `0` (48) to `9`, `a` (97) to `f`
abbrev pub digit_byte : ℕ → ℕ
digit_byte d = if nat_lt d 10 then 48 + d else 87 + d

-- the two digits of a byte
abbrev pub digits_of : ℕ → List ℕ
digits_of byte = digit_byte (byte / 16) ∷ digit_byte (byte % 16) ∷ []

-- a number of 128 bits as 32 hexadecimal digits
unfoldable pub hexadecimal_text : ℕ → List ℕ
hexadecimal_text number = flat_map digits_of (to_be_bytes w128 number)

-- a plus sign (43) for a comma (44)
abbrev pub plus_for : ℕ → ℕ
plus_for byte = if byte == 44 then 43 else byte

-- names that commas join, with plus signs in their places, since in a list commas part values
abbrev pub with_plus : List ℕ → List ℕ
with_plus text = map plus_for text

-- what stands behind a state without a translation that could have one
abbrev pub plain_mark : ℕ → List ℕ
plain_mark number = if number == 2 || number == 6 || number == 10 then codes "+PLAIN" else []

-- the text of one end of an interval; of interfaces 32 hexadecimal digits, since not every number is that of a name
abbrev pub end_text : Field → ℕ → List ℕ
end_text Source number = value_text Source number
end_text Destination number = value_text Destination number
end_text InIface number = hexadecimal_text number
end_text OutIface number = hexadecimal_text number
end_text Protocol number = value_text Protocol number
end_text Fragment number = value_text Fragment number
end_text SourcePort number = value_text SourcePort number
end_text DestinationPort number = value_text DestinationPort number
end_text TcpFlags number = with_plus (value_text TcpFlags number)
end_text IcmpType number = value_text IcmpType number
end_text ConnectionState number = with_plus (value_text ConnectionState number) ++ plain_mark number
end_text TimeToLive number = value_text TimeToLive number

-- what stands between the two ends: `-` (45) or `:` (58)
abbrev pub mark_of : Field → ℕ
mark_of Source = 45
mark_of Destination = 45
mark_of InIface = 45
mark_of OutIface = 45
mark_of Protocol = 58
mark_of Fragment = 58
mark_of SourcePort = 58
mark_of DestinationPort = 58
mark_of TcpFlags = 58
mark_of IcmpType = 45
mark_of ConnectionState = 58
mark_of TimeToLive = 58

-- a text may stand for several numbers on this field: not of flags and states
abbrev pub has_ranges : Field → Bool
has_ranges Source = true
has_ranges Destination = true
has_ranges InIface = true
has_ranges OutIface = true
has_ranges Protocol = true
has_ranges Fragment = true
has_ranges SourcePort = true
has_ranges DestinationPort = true
has_ranges TcpFlags = false
has_ranges IcmpType = true
has_ranges ConnectionState = false
has_ranges TimeToLive = true

-- the text of one number or, of a state with all its translations, its name
abbrev pub one_text : Field → Interval → List ℕ
one_text field s = if s.first == s.last then end_text field s.first else value_text field s.first

-- the two ends with the mark between them; of flags and states one text
abbrev pub plain_text : Field → Interval → List ℕ
plain_text field s = if has_ranges field then end_text field s.first ++ mark_of field ∷ end_text field s.last else one_text field s

-- the numbers are those of a row
abbrev pub is_row : Interval → List ℕ × (ℕ × ℕ) → Bool
is_row s row = (s.first == row.1.0) && (s.last == row.1.1)

-- flags and states of which one text stands for the interval: one number, or a state with all its translations
abbrev pub is_one : Field → Interval → Bool
is_one Source s = true
is_one Destination s = true
is_one InIface s = true
is_one OutIface s = true
is_one Protocol s = true
is_one Fragment s = true
is_one SourcePort s = true
is_one DestinationPort s = true
is_one TcpFlags s = s.first == s.last
is_one IcmpType s = true
is_one ConnectionState s = (s.first == s.last) || list_any (is_row s) state_ranges
is_one TimeToLive s = true

-- the intervals that have such a text: those up to the field's top, of flags and states only those of one text
pub record IsPart (field : Field) (s : Interval) : Type 0 where
  pub ordered : s.first ≤ s.last
  pub within : s.last ≤ top field
  pub one : is_one field s ≡ true

-- ---- The texts of intervals as a user would write them (iptables(8), PARAMETERS; iptables-extensions(8)).

-- one address alone; of several, the first with `/n` (47), where a prefix of that length has so many
pub data IsAddresses : Interval → List ℕ → Type 0 where
  address : (s : Interval) → s.first ≡ s.last → IsAddresses s (address_text s.first)
  prefix : (s : Interval) (n : ℕ) → n < 32 → s.first + block_size n ≡ s.last + 1 → IsAddresses s (address_text s.first ++ 47 ∷ decimal n)

-- `none` for a missing interface; the name of one; of several, the beginning of their names with `+` (43)
pub data IsInterfaces : Interval → List ℕ → Type 0 where
  missing : (s : Interval) → s.last ≡ 0 → IsInterfaces s (codes "none")
  name : (s : Interval) → 0 < s.last → s.first ≡ s.last → IsInterfaces s (interface_name s.first)
  beginning : (s : Interval) → s.first < s.last → IsInterfaces s (interface_name s.first ++ 43 ∷ [])

-- one type with its code; of several, the type of the first
pub data IsTypes : Interval → List ℕ → Type 0 where
  with_code : (s : Interval) → s.first ≡ s.last → IsTypes s (icmp_text s.first)
  all_codes : (s : Interval) → s.first < s.last → IsTypes s (decimal (s.first / 256))

-- a user may write the interval so; of other fields, its first number
abbrev pub IsUsual : Field → Interval → List ℕ → Type 0
IsUsual Source s text = IsAddresses s text
IsUsual Destination s text = IsAddresses s text
IsUsual InIface s text = IsInterfaces s text
IsUsual OutIface s text = IsInterfaces s text
IsUsual Protocol s text = text ≡ value_text Protocol s.first
IsUsual Fragment s text = text ≡ value_text Fragment s.first
IsUsual SourcePort s text = text ≡ value_text SourcePort s.first
IsUsual DestinationPort s text = text ≡ value_text DestinationPort s.first
IsUsual TcpFlags s text = text ≡ plain_text TcpFlags s
IsUsual IcmpType s text = IsTypes s text
IsUsual ConnectionState s text = text ≡ plain_text ConnectionState s
IsUsual TimeToLive s text = text ≡ value_text TimeToLive s.first
