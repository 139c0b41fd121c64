-- Whether a rule is dead or live.
use Rattle.std.specs.Prelude.{◌≡◌, ℕ, List, Contains, Ok}
use Rattle.fields.specs.declared.packet.hook.Hook.{Hook}
use Rattle.fields.specs.Packet.{PacketView as Packet, packet_of}
use Rattle.table.specs.chains.Table.{Table}
use Rattle.table.specs.walk.Walk.{Entry, walk}
use Rattle.questions.specs.boxes.Boxes.{IsAtHook}

-- the rule is on the walk of no packet that can be at this hook
abbrev pub IsDeadAt : Table → Entry → Hook → Type 0
IsDeadAt t entry hook = (p : Packet) → IsAtHook p → p.hook ≡ hook → Contains (walk t p).trail entry → ⊥

-- the rule is on the walk of no packet that can be at its hook
abbrev pub IsDead : Table → Entry → Type 0
IsDead t entry = (p : Packet) → IsAtHook p → Contains (walk t p).trail entry → ⊥

-- the rule is on the walk of a packet that these words write
abbrev pub IsLive : Table → Entry → List (List ℕ) → Type 0
IsLive t entry words = (p : Packet) × (packet_of words ≡ Ok p) × Contains (walk t p).trail entry

-- the rule is on the walk of a packet at this hook that these words write
abbrev pub IsLiveAt : Table → Entry → Hook → List (List ℕ) → Type 0
IsLiveAt t entry hook words = (p : Packet) × (packet_of words ≡ Ok p) × (p.hook ≡ hook) × Contains (walk t p).trail entry
