-- ICMP types and codes, as `--icmp-type` takes them (iptables-extensions(8), icmp) and as a packet has them.
use Rattle.std.specs.Prelude.{ℕ, ◌<◌, ◌/◌, ◌%◌, ◌==◌, ◌&&◌, Bool, true, List, [], ◌∷◌, ◌++◌, find, Option, Some, None, option_map, if◌then◌else◌, codes, decimal, ◌+◌, ◌*◌}
use Rattle.std.specs.Option.{option_or}
use Rattle.std.specs.Str.{bytes_eq}
use Rattle.fields.specs.Sequence.{◌>>=◌}
use Rattle.fields.specs.text.Cut.{cut_at}
use Rattle.fields.specs.text.Number.{number_to}
use Rattle.fields.specs.declared.values.icmp.Asked.{Asked}
use Rattle.fields.specs.declared.values.icmp.Asked.TheVariants.{Any, OfType, OfCode}

-- ---- ICMP types and codes, as `--icmp-type` takes them (iptables-extensions(8), icmp).

-- the names, each with the type or the type and code that it stands for
abbrev pub icmp_names : List (List ℕ × Asked)
icmp_names =
    (codes "any", Any) ∷ (codes "echo-reply", OfType 0) ∷ (codes "pong", OfType 0) ∷ (codes "destination-unreachable", OfType 3)
    ∷ (codes "network-unreachable", OfCode 3 0) ∷ (codes "host-unreachable", OfCode 3 1) ∷ (codes "protocol-unreachable", OfCode 3 2)
    ∷ (codes "port-unreachable", OfCode 3 3) ∷ (codes "fragmentation-needed", OfCode 3 4) ∷ (codes "source-quench", OfType 4)
    ∷ (codes "redirect", OfType 5) ∷ (codes "echo-request", OfType 8) ∷ (codes "ping", OfType 8) ∷ (codes "time-exceeded", OfType 11)
    ∷ (codes "ttl-exceeded", OfType 11) ∷ (codes "parameter-problem", OfType 12) ∷ (codes "timestamp-request", OfType 13)
    ∷ (codes "timestamp-reply", OfType 14) ∷ []

-- what the text stands for as one of these names
abbrev pub asked_by_name : List ℕ → List (List ℕ × Asked) → Option Asked
asked_by_name text names = option_map (λ row. row.1) (find (λ row. bytes_eq row.0 text) names)

-- a number alone is a type, but 255 is any type
abbrev pub asked_type : ℕ → Asked
asked_type n = if n == 255 then Any else OfType n

-- a type up to 255, or `t/c` with a type up to 254 and a code up to 255
abbrev pub numbers_parted : List ℕ → Option (List ℕ × List ℕ) → Option Asked
numbers_parted text None = number_to 255 text >>= λ n. Some (asked_type n)
numbers_parted text (Some p) = number_to 254 p.0 >>= λ t. number_to 255 p.1 >>= λ c. Some (OfCode t c)

-- what a text stands for as numbers
unfoldable pub asked_by_numbers : List ℕ → Option Asked
asked_by_numbers text = numbers_parted text (cut_at 47 text)

-- what a text stands for: as numbers, or else as a name
unfoldable pub icmp_of : List ℕ → Option Asked
icmp_of text = option_or (asked_by_numbers text) (asked_by_name text icmp_names)

-- a type is at most 254, a code at most 255
abbrev pub IsAsked : Asked → Type 0
IsAsked Any = Unit {0}
IsAsked (OfType t) = t < 255
IsAsked (OfCode t c) = (t < 255) × (c < 256)

-- `t`, `t/c` or `any`
abbrev pub icmp_text : Asked → List ℕ
icmp_text Any = codes "any"
icmp_text (OfType t) = decimal t
icmp_text (OfCode t c) = decimal t ++ 47 ∷ decimal c

-- whether a packet with this number on the field `icmp` (the type times 256, plus the code) has that type or code
abbrev pub icmp_passes : Asked → ℕ → Bool
icmp_passes Any value = true
icmp_passes (OfType t) value = value / 256 == t
icmp_passes (OfCode t c) value = (value / 256 == t) && (value % 256 == c)

-- ---- The ICMP type and code of a packet.

-- the number of a packet's `type/code`, each up to 255: the type times 256, plus the code
unfoldable pub packet_icmp_of : List ℕ → Option ℕ
packet_icmp_of text = do
  p ← cut_at 47 text
  t ← number_to 255 p.0
  c ← number_to 255 p.1
  Some (t * 256 + c)
