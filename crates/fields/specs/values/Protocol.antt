-- Protocols by name and number, as `-p` takes them (iptables(8), PARAMETERS, -p).
use Rattle.std.specs.Prelude.{ℕ, ◌==◌, Bool, ◌||◌, List, [], ◌∷◌, Option, Some, None, option_map, find, codes, decimal, if◌then◌else◌}
use Rattle.std.specs.Option.{option_or}
use Rattle.std.specs.Str.{bytes_eq}
use Rattle.fields.specs.text.Number.{number_to}

-- the names with their numbers; of the names of one number the first is printed
abbrev pub protocols : List (List ℕ × ℕ)
protocols =
    (codes "icmp", 1) ∷ (codes "igmp", 2) ∷ (codes "tcp", 6) ∷ (codes "udp", 17) ∷ (codes "dccp", 33) ∷ (codes "gre", 47)
    ∷ (codes "esp", 50) ∷ (codes "ah", 51) ∷ (codes "ipv6-icmp", 58) ∷ (codes "icmpv6", 58) ∷ (codes "ospf", 89)
    ∷ (codes "vrrp", 112) ∷ (codes "sctp", 132) ∷ (codes "udplite", 136) ∷ []

-- the number of the first entry with this name
abbrev pub number_in : List ℕ → List (List ℕ × ℕ) → Option ℕ
number_in text entries = option_map (λ entry. entry.1) (find (λ entry. bytes_eq entry.0 text) entries)

-- the name of the first entry with this number
abbrev pub name_in : ℕ → List (List ℕ × ℕ) → Option (List ℕ)
name_in number entries = option_map (λ entry. entry.0) (find (λ entry. entry.1 == number) entries)

-- the number of a name
unfoldable pub protocol_number : List ℕ → Option ℕ
protocol_number text = number_in text protocols

-- the first name of a number
unfoldable pub protocol_name : ℕ → Option (List ℕ)
protocol_name number = name_in number protocols

-- one protocol: a name, or a number up to 255
unfoldable pub one_protocol_of : List ℕ → Option ℕ
one_protocol_of text = option_or (protocol_number text) (number_to 255 text)

-- the protocol that a rule gives: `all`, which is 0, a name, or a number up to 255
unfoldable pub protocol_of : List ℕ → Option ℕ
protocol_of text = if bytes_eq text (codes "all") then Some 0 else one_protocol_of text

-- the name, or else the number
abbrev pub named_or_decimal : ℕ → Option (List ℕ) → List ℕ
named_or_decimal number None = decimal number
named_or_decimal number (Some name) = name

-- the text of a protocol: its first name, or else its number
unfoldable pub protocol_text : ℕ → List ℕ
protocol_text number = named_or_decimal number (protocol_name number)

-- the protocols whose packets have ports: tcp, udp, dccp, sctp and udplite
abbrev pub carries_ports : ℕ → Bool
carries_ports number = number == 6 || number == 17 || number == 33 || number == 132 || number == 136
