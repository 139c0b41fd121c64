-- Ranges of addresses, as `--src-range` and `--dst-range` take them (iptables-extensions(8), iprange).
use Rattle.std.specs.Prelude.{ℕ, ◌<◌, ◌^◌, ◌&&◌, nat_le, Bool, List, ◌∷◌, ◌++◌, Option, Some, None}
use Rattle.fields.specs.Sequence.{◌>>=◌}
use Rattle.fields.specs.text.Cut.{cut_at}
use Rattle.fields.specs.values.Prefix.{address_of, address_text}

-- two addresses, the first of which may be above the second
pub record Ends : Type 0 where
  pub from : ℕ
  pub to : ℕ

-- both are addresses
pub record AreEnds (ends : Ends) : Type 0 where
  pub from_small : ends.from < 2 ^ 32
  pub to_small : ends.to < 2 ^ 32

-- an address alone is both ends; else the ends stand before and after the first `-` (45)
abbrev pub ends_parted : List ℕ → Option (List ℕ × List ℕ) → Option Ends
ends_parted text None = address_of text >>= λ a. Some (record { from = a; to = a })
ends_parted text (Some p) = address_of p.0 >>= λ a. address_of p.1 >>= λ b. Some (record { from = a; to = b })

-- the range that a text stands for
unfoldable pub ip_range_of : List ℕ → Option Ends
ip_range_of text = ends_parted text (cut_at 45 text)

-- `from-to`, always with both ends
abbrev pub ip_range_text : Ends → List ℕ
ip_range_text ends = address_text ends.from ++ 45 ∷ address_text ends.to

-- the address lies between the ends or is one of them
abbrev pub range_has : Ends → ℕ → Bool
range_has ends address = nat_le ends.from address && nat_le address ends.to
