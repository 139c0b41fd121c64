-- How the code reads values part by part: an address with the dot after each part, and a list of ports item after item.
use Rattle.std.specs.Prelude.{ℕ, ◌+◌, ◌*◌, List, Option, Some, nat_le, None, if◌then◌else◌}
use Rattle.fields.specs.Sequence.{◌>>=◌}
use Rattle.fields.specs.text.Cut.{cut_at}
use Rattle.fields.specs.text.Number.{number_to}
use Rattle.fields.specs.values.PortRange.{Ports}
use Rattle.fields.specs.values.PortList.{port_item_of, port_count}

-- ---- How the code reads an address: part by part, with the dot after it.

-- the number up to 255 before the first dot, and what follows the dot
unfoldable pub octet_at_front : List ℕ → Option (ℕ × List ℕ)
octet_at_front text = cut_at 46 text >>= λ p. number_to 255 p.0 >>= λ n. Some (n, p.1)

-- the address of four such numbers
unfoldable pub address_by_octets : List ℕ → Option ℕ
address_by_octets text = do
  a ← octet_at_front text
  b ← octet_at_front a.1
  c ← octet_at_front b.1
  z ← number_to 255 c.1
  Some (((a.0 * 256 + b.0) * 256 + c.0) * 256 + z)

-- ---- How the code reads a list of ports: item after item, each where there is room for it.

-- the item, where it counts as this many ports at most
unfoldable pub item_within : ℕ → List ℕ → Option Ports
item_within room text = port_item_of text >>= λ item. if nat_le (port_count item) room then Some item else None
