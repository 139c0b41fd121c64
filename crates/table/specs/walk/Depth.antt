-- How deep a walk goes: how many chains wait on its stack at most.
use Rattle.std.specs.Prelude.{ℕ, zero, suc, ◌-◌, ◌≤◌, max, List, [], ◌∷◌, length, Some, None}
use Rattle.fields.specs.Hook.{name as hook_name}
use Rattle.fields.specs.Packet.{PacketView as Packet}
use Rattle.table.specs.chains.Table.{Chain, Table, user_chains}
use Rattle.table.specs.chains.Sound.{IsSound}
use Rattle.table.specs.walk.Walk.{Rest, Next, Ends, GoesOn, first_hit, next_of, whole}

-- how many rests wait below the present one
abbrev pub stacked : List Rest → ℕ
stacked rests = length rests - 1

-- the greater of the stack's height here and later
abbrev pub deeper : (List Rest → ℕ) → List Rest → Next → ℕ
deeper go rests (Ends v) = stacked rests
deeper go rests (GoesOn next) = max (stacked rests) (go next)

-- the greatest height of the stack from here on, over so many matches
unfoldable pub depth_within : ℕ → List Chain → List ℕ → List Rest → ℕ
depth_within zero chains values rests = stacked rests
depth_within (suc room) chains values rests =
    elim (first_hit chains values rests) [
      | None ↦ stacked rests
      | Some hit ↦ deeper (depth_within room chains values) rests (next_of hit)
    ]

-- that of a walk with room for so many entries on its trail
abbrev pub depth_to : ℕ → Table → Packet → ℕ
depth_to room t packet = depth_within room t.chains packet.values (whole (hook_name packet.hook) ∷ [])

-- the greatest height of the stack during the walk of a packet
abbrev pub depth : Table → Packet → ℕ
depth t packet = depth_to 65536 t packet

-- no more rests wait than there are user chains
abbrev pub DepthIsBounded : Type 0
DepthIsBounded = (t : Table) (packet : Packet) → IsSound t → depth t packet ≤ length (user_chains t.chains)
