-- Ports and ranges of ports, as `--sport` and `--dport` take them (iptables-extensions(8), tcp and udp).
use Rattle.std.specs.Prelude.{ℕ, ◌≤◌, ◌==◌, nat_le, Bool, ◌&&◌, List, [], ◌∷◌, ◌++◌, Option, Some, None, if◌then◌else◌, decimal}
use Rattle.fields.specs.Sequence.{◌>>=◌}
use Rattle.fields.specs.text.Cut.{cut_at}
use Rattle.fields.specs.text.Number.{number_to}

-- the ports from one to another, both included
pub record Ports : Type 0 where
  pub from : ℕ
  pub to : ℕ

-- the first port isn't above the last, and the last is at most 65535
pub record ArePorts (ports : Ports) : Type 0 where
  pub ordered : ports.from ≤ ports.to
  pub within : ports.to ≤ 65535

-- the ports from one to another, if the first isn't above the last
abbrev pub ports_between : ℕ → ℕ → Option Ports
ports_between from to = if nat_le from to then Some (record { from = from; to = to }) else None

-- a port: a number up to 65535
abbrev pub port_of : List ℕ → Option ℕ
port_of text = number_to 65535 text

-- a port, or this one where the text is empty
abbrev pub port_or : ℕ → List ℕ → Option ℕ
port_or missing [] = Some missing
port_or missing (byte ∷ bytes) = port_of (byte ∷ bytes)

-- one port, or a range `a:b`, by what stands before and after its colon; a missing a is 0, a missing b is 65535
abbrev pub range_parted : List ℕ → Option (List ℕ × List ℕ) → Option Ports
range_parted text None = port_of text >>= λ port. ports_between port port
range_parted text (Some p) = port_or 0 p.0 >>= λ from. port_or 65535 p.1 >>= λ to. ports_between from to

-- the ports that a text stands for: `a`, or `a:b` where a missing end is 0 or 65535
unfoldable pub port_range_of : List ℕ → Option Ports
port_range_of text = range_parted text (cut_at 58 text)

-- one port as its number, several as `a:b`
abbrev pub ports_text : Ports → List ℕ
ports_text ports = if ports.from == ports.to then decimal ports.from else decimal ports.from ++ (58 ∷ decimal ports.to)

-- the port is one of them
abbrev pub has_port : Ports → ℕ → Bool
has_port ports port = nat_le ports.from port && nat_le port ports.to

-- every port
abbrev pub all_ports : Ports
all_ports = record { from = 0; to = 65535 }
