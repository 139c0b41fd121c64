-- What texts on a field stand for: addresses, interfaces, protocols, ports, ICMP types, flags, states, numbers (iptables(8),
-- PARAMETERS; iptables-extensions(8)).
use Rattle.std.specs.Prelude.{ℕ, ◌+◌, ◌-◌, ◌*◌, ◌==◌, nat_lt, nat_le, ◌&&◌, List, [], ◌∷◌, length, map, find, Option, Some, None, option_map, if◌then◌else◌, codes}
use Rattle.std.specs.Str.{bytes_eq, str_eq_ignore_ascii_case}
use Rattle.fields.specs.Sequence.{◌>>=◌}
use Rattle.fields.specs.declared.numbers.field.Field.{Field}
use Rattle.fields.specs.declared.numbers.field.Field.TheVariants.{Source, Destination, InIface, OutIface, Protocol, Fragment, SourcePort, DestinationPort, TcpFlags, IcmpType, ConnectionState, TimeToLive}
use Rattle.fields.specs.text.Cut.{cut_at}
use Rattle.fields.specs.text.Number.{number_to}
use Rattle.fields.specs.values.ConnectionState.{packet_state_of}
use Rattle.fields.specs.values.Interface.{interface_of, interface_interval}
use Rattle.fields.specs.values.Icmp.{packet_icmp_of}
use Rattle.fields.specs.values.PortRange.{port_range_of}
use Rattle.fields.specs.values.Prefix.{Network, block_size, address_of, prefix_of}
use Rattle.fields.specs.values.Protocol.{one_protocol_of}
use Rattle.fields.specs.values.TcpFlags.{tcp_flags_of}

-- one number, as both ends
abbrev pub alone : ℕ → Option (ℕ × ℕ)
alone n = Some (n, n)

-- the number as both ends, if there is one
abbrev pub if_any : Option ℕ → Option (ℕ × ℕ)
if_any None = None
if_any (Some n) = alone n

-- from one number to another, if the first isn't above the last
abbrev pub between : ℕ → ℕ → Option (ℕ × ℕ)
between a b = if nat_le a b then Some (a, b) else None

-- the numbers before and after a mark, or one number where there is no mark
abbrev pub ends_of : (List ℕ → Option ℕ) → List ℕ → Option (List ℕ × List ℕ) → Option (ℕ × ℕ)
ends_of read text None = read text >>= alone
ends_of read text (Some p) = read p.0 >>= λ a. read p.1 >>= λ b. between a b

-- one number, or two with this mark between them
abbrev pub ends_at : ℕ → (List ℕ → Option ℕ) → List ℕ → Option (ℕ × ℕ)
ends_at mark read text = ends_of read text (cut_at mark text)

-- the addresses of a prefix; else those between two with a `-` (45)
abbrev pub addresses_or : List ℕ → Option Network → Option (ℕ × ℕ)
addresses_or text (Some p) = Some (p.address, p.address + (block_size p.length - 1))
addresses_or text None = ends_at 45 address_of text

-- addresses: `a.b.c.d`, `a.b.c.d/n` or `a.b.c.d-e.f.g.h`
unfoldable pub addresses_in : List ℕ → Option (ℕ × ℕ)
addresses_in text = addresses_or text (prefix_of text)

-- ports: `a` or `a:b`
unfoldable pub ports_in : List ℕ → Option (ℕ × ℕ)
ports_in text = port_range_of text >>= λ ports. Some (ports.from, ports.to)

-- numbers up to a top: `a` or `a:b` (58)
unfoldable pub numbers_in : ℕ → List ℕ → Option (ℕ × ℕ)
numbers_in top text = ends_at 58 (number_to top) text

-- one protocol, else numbers
abbrev pub protocols_or : List ℕ → Option ℕ → Option (ℕ × ℕ)
protocols_or text (Some n) = alone n
protocols_or text None = numbers_in 255 text

-- protocols: a name, a number, or `a:b` of numbers
unfoldable pub protocols_in : List ℕ → Option (ℕ × ℕ)
protocols_in text = protocols_or text (one_protocol_of text)

-- a type with all its codes; else a type and a code, or two of these with a `-` (45)
abbrev pub types_or : List ℕ → Option ℕ → Option (ℕ × ℕ)
types_or text (Some t) = Some (t * 256, t * 256 + 255)
types_or text None = ends_at 45 packet_icmp_of text

-- ICMP types and codes: `3`, `3/1` or `3/0-4/5`
unfoldable pub types_in : List ℕ → Option (ℕ × ℕ)
types_in text = types_or text (number_to 255 text)

-- the number of a hexadecimal digit, `0` to `9` or `a` to `f`
abbrev pub digit_of : ℕ → Option ℕ
digit_of b = if nat_le 48 b && nat_le b 57 then Some (b - 48) else if nat_le 97 b && nat_le b 102 then Some (b - 87) else None

-- the number that these digits make after the digits of n, up to 128 bits
abbrev pub digits_from : ℕ → List ℕ → Option ℕ
digits_from n [] = Some n
digits_from n (b ∷ bs) = if nat_lt n 21267647932558653966460912964485513216 then (digit_of b >>= λ d. digits_from (n * 16 + d) bs) else None

-- the number of 32 hexadecimal digits
unfoldable pub hexadecimal_of : List ℕ → Option ℕ
hexadecimal_of text = if length text == 32 then digits_from 0 text else None

-- the interfaces of a pattern; else those between two numbers with a `-` (45)
abbrev pub interfaces_or : List ℕ → Option (List ℕ) → Option (ℕ × ℕ)
interfaces_or text (Some pattern) = Some (interface_interval pattern)
interfaces_or text None = ends_at 45 hexadecimal_of text

-- interfaces: `none` for a missing one, `eth0`, `eth+`, or two numbers
unfoldable pub interfaces_in : List ℕ → Option (ℕ × ℕ)
interfaces_in text = if bytes_eq text (codes "none") then alone 0 else interfaces_or text (interface_of text)

-- a comma (44) for a plus sign (43)
abbrev pub comma_for : ℕ → ℕ
comma_for byte = if byte == 43 then 44 else byte

-- names that plus signs join, as in a list of values, with commas in their places
abbrev pub with_commas : List ℕ → List ℕ
with_commas text = map comma_for text

-- the numbers of a state alone, with any translations (iptables-extensions(8), conntrack)
abbrev pub state_ranges : List (List ℕ × (ℕ × ℕ))
state_ranges =
    (codes "INVALID", (0, 0)) ∷ (codes "UNTRACKED", (1, 1)) ∷ (codes "NEW", (2, 5)) ∷ (codes "RELATED", (6, 9)) ∷ (codes "ESTABLISHED", (10, 13)) ∷ []

-- the numbers of the first row of a name, in upper or lower case
abbrev pub range_named : List (List ℕ × (ℕ × ℕ)) → List ℕ → Option (ℕ × ℕ)
range_named rows text = option_map (λ row. row.1) (find (λ row. str_eq_ignore_ascii_case row.0 text) rows)

-- the number of a state with just the translations behind it, of which it has none with `PLAIN`
abbrev pub state_with : List ℕ → List ℕ → List ℕ → Option ℕ
state_with state translations text = if str_eq_ignore_ascii_case (codes "PLAIN") translations then packet_state_of state else packet_state_of (with_commas text)

-- a state alone; else, with plus signs (43), one with just these translations
abbrev pub states_or : List ℕ → Option (List ℕ × List ℕ) → Option (ℕ × ℕ)
states_or text None = range_named state_ranges text
states_or text (Some p) = if_any (state_with p.0 p.1 text)

-- states: `NEW`, `NEW+DNAT`, `NEW+SNAT+DNAT` or `NEW+PLAIN`
unfoldable pub states_in : List ℕ → Option (ℕ × ℕ)
states_in text = states_or text (cut_at 43 text)

-- flags: `SYN` or `SYN+ACK`, which are just these
unfoldable pub flags_in : List ℕ → Option (ℕ × ℕ)
flags_in text = if_any (tcp_flags_of (with_commas text))

-- the first and the last number that a text stands for on a field, one row a field
abbrev pub range_in : Field → List ℕ → Option (ℕ × ℕ)
range_in Source text = addresses_in text
range_in Destination text = addresses_in text
range_in InIface text = interfaces_in text
range_in OutIface text = interfaces_in text
range_in Protocol text = protocols_in text
range_in Fragment text = numbers_in 1 text
range_in SourcePort text = ports_in text
range_in DestinationPort text = ports_in text
range_in TcpFlags text = flags_in text
range_in IcmpType text = types_in text
range_in ConnectionState text = states_in text
range_in TimeToLive text = numbers_in 255 text
