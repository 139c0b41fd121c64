-- Lists of ports, as `--sports`, `--dports` and `--ports` take them (iptables-extensions(8), multiport).
use Rattle.std.specs.Prelude.{ℕ, ◌<◌, ◌≤◌, ◌==◌, nat_le, Bool, List, [], ◌∷◌, length, map, sum_by, All, Option, Some, None, if◌then◌else◌}
use Rattle.std.specs.List.{list_any, slice_split, join_with_byte}
use Rattle.fields.specs.Sequence.{◌>>=◌}
use Rattle.fields.specs.text.Cut.{cut_at}
use Rattle.fields.specs.values.PortRange.{Ports, ArePorts, ports_between, port_of, ports_text, has_port}

-- one port, or a range, by what stands before and after its colon; both ends have to be given
abbrev pub item_parted : List ℕ → Option (List ℕ × List ℕ) → Option Ports
item_parted text None = port_of text >>= λ port. ports_between port port
item_parted text (Some p) = port_of p.0 >>= λ from. port_of p.1 >>= λ to. ports_between from to

-- an item of a list: a port, or a range `a:b`
unfoldable pub port_item_of : List ℕ → Option Ports
port_item_of text = item_parted text (cut_at 58 text)

-- a range counts as two ports, a single port as one
abbrev pub port_count : Ports → ℕ
port_count ports = if ports.from == ports.to then 1 else 2

-- what the texts are read as, if all can be read
abbrev pub all_read : {B : Type 0} → (List ℕ → Option B) → List (List ℕ) → Option (List B)
all_read read [] = Some []
all_read read (text ∷ texts) = read text >>= λ x. all_read read texts >>= λ xs. Some (x ∷ xs)

-- the items, if they count as at most so many ports
abbrev pub counted : ℕ → List Ports → Option (List Ports)
counted room items = if nat_le (sum_by port_count items) room then Some items else None

-- the items between the commas (44) of a text, if they count as at most so many ports
unfoldable pub port_items_of : ℕ → List ℕ → Option (List Ports)
port_items_of room text = all_read port_item_of (slice_split (λ byte. byte == 44) text) >>= counted room

-- the list that a text stands for: up to 15 ports and ranges with both ends, where a range counts as two
abbrev pub port_list_of : List ℕ → Option (List Ports)
port_list_of text = port_items_of 15 text

-- one or more items that count as at most 15 ports
pub record IsPortList (items : List Ports) : Type 0 where
  pub some : 0 < length items
  pub few : sum_by port_count items ≤ 15
  pub ports : All ArePorts items

-- the items in their order, with a comma between two
abbrev pub port_list_text : List Ports → List ℕ
port_list_text items = join_with_byte 44 (map ports_text items)

-- the port is one of an item's
abbrev pub list_has_port : List Ports → ℕ → Bool
list_has_port items port = list_any (λ item. has_port item port) items
